-- Laws about writing texts into a buffer: one text, several texts, and several as one.
-- Assumes nothing.
use mathlib.Core.Path.{◌≡◌, refl, sym, ◌∙◌, ap, ap₂}
use mathlib.Core.Bool.{Bool, true, false, cond}
use mathlib.Core.List.{List, [], ◌∷◌, ◌++◌, append_assoc, append-nil}
use Prim.Native.Nat.{ℕ, ◌+◌, ◌≤◌, ◌<◌}
use native.Mathlib.Nat.{add-zero, le_of_eq}
use native.Mathlib.Omega.{arith}
use borrow.Author.Tests.{le-leb, lt-leb, leb-true, leb-false}
use lib.Dec.{leb}
use lib.ListN.{length, take, drop, take-append-drop, length-append, length-drop}
use lib.Seq.{length-take-le, take_all, take_at, drop_at, drop-drop, take-length}
use borrow.Rule.Slice.PartMut.{put_mid}
use Rattle.std.proofs.lemmas.Slice.{put_mid-paste}
use Rattle.replies.specs.Laid.{Laid, laid, lay, lay_all, concat}

-- a text that fits
pub lay_fits : (l : Laid) (s : List ℕ) → l.at + length s ≤ length l.out
    → lay l s ≡ laid (l.at + length s) (take l.at l.out ++ s ++ drop (l.at + length s) l.out)
unfolding lay
lay_fits l s h =
    ap (λ (b : Bool). cond b (laid (l.at + length s) (take l.at l.out ++ s ++ drop (l.at + length s) l.out)) l) (le-leb _ _ h)

-- a text that does not fit
pub lay_short : (l : Laid) (s : List ℕ) → length l.out < l.at + length s → lay l s ≡ l
unfolding lay
lay_short l s h =
    ap (λ (b : Bool). cond b (laid (l.at + length s) (take l.at l.out ++ s ++ drop (l.at + length s) l.out)) l) (lt-leb _ _ h)

-- replacing a part by a text of the same length keeps the length
pub length_in : (at : ℕ) (out s : List ℕ) → at + length s ≤ length out
    → length (take at out ++ s ++ drop (at + length s) out) ≡ length out
length_in at out s h =
    length-append (take at out ++ s) (drop (at + length s) out)
    ∙ ap₂ ◌+◌ (length-append (take at out) s ∙ ap (λ (k : ℕ). k + length s) (length-take-le at out (omega arith))) (length-drop (at + length s) out)
    ∙ omega arith

length_by : (b : Bool) (l : Laid) (s : List ℕ) → leb (l.at + length s) (length l.out) ≡ b → length (lay l s).out ≡ length l.out
length_by true l s e =
    ap (λ (k : Laid). length k.out) (lay_fits l s (leb-true _ _ e)) ∙ length_in l.at l.out s (leb-true _ _ e)
length_by false l s e = ap (λ (k : Laid). length k.out) (lay_short l s (leb-false _ _ e))

-- writing a text keeps the buffer's length
pub length_lay : (l : Laid) (s : List ℕ) → length (lay l s).out ≡ length l.out
length_lay l s = length_by _ l s refl

empty_in : (at : ℕ) (out : List ℕ) → laid (at + 0) (take at out ++ [] ++ drop (at + 0) out) ≡ laid at out
empty_in at out =
    ap₂ laid (add-zero at)
    (ap₂ (λ (a b : List ℕ). a ++ b) (append-nil (take at out)) (ap (λ (k : ℕ). drop k out) (add-zero at)) ∙ take-append-drop at out)

empty_by : (b : Bool) (l : Laid) → leb (l.at + 0) (length l.out) ≡ b → lay l [] ≡ l
empty_by true l e = lay_fits l [] (leb-true _ _ e) ∙ empty_in l.at l.out
empty_by false l e = lay_short l [] (leb-false _ _ e)

-- the empty text changes nothing
pub lay_nothing : (l : Laid) → lay l [] ≡ l
lay_nothing l = empty_by _ l refl

-- texts written after other texts
pub lay_all_append : (l : Laid) (ss ts : List (List ℕ)) → lay_all l (ss ++ ts) ≡ lay_all (lay_all l ss) ts
lay_all_append l [] ts = refl
lay_all_append l (s ∷ ss) ts = lay_all_append (lay l s) ss ts

-- a second text stands right behind the first
second_in : (at : ℕ) (out s t : List ℕ) → at + length (s ++ t) ≤ length out
    → lay (laid (at + length s) (take at out ++ s ++ drop (at + length s) out)) t ≡ lay (laid at out) (s ++ t)
second_in at out s t h =
    let e : length (s ++ t) ≡ length s + length t = length-append s t in
    let first : length (take at out ++ s) ≡ at + length s =
    length-append (take at out) s ∙ ap (λ (k : ℕ). k + length s) (length-take-le at out (omega arith)) in
    let n : ℕ = at + length s in
    let rest : List ℕ = drop (at + length s) out in
    let long : length (take at out ++ s ++ rest) ≡ length out = length_in at out s (omega arith) in
    let behind : n + length t ≡ at + length (s ++ t) = omega arith in
    lay_fits (laid n (take at out ++ s ++ rest)) t (omega arith)
    ∙ ap₂ laid
    behind
    (ap₂ (λ (a b : List ℕ). a ++ t ++ b)
    (take_at (take at out ++ s) rest n first)
    (sym (drop-drop (length t) n (take at out ++ s ++ rest))
    ∙ ap (drop (length t)) (drop_at (take at out ++ s) rest n first)
    ∙ drop-drop (length t) n out
    ∙ ap (λ (k : ℕ). drop k out) behind)
    ∙ ap (λ (a : List ℕ). a ++ drop (at + length (s ++ t)) out) (append_assoc (take at out) s t))
    ∙ sym (lay_fits (laid at out) (s ++ t) h)

-- two texts written one after the other are written as one
pub lay_lay : (l : Laid) (s t : List ℕ) → l.at + length (s ++ t) ≤ length l.out → lay (lay l s) t ≡ lay l (s ++ t)
lay_lay l s t h =
    ap (λ (k : Laid). lay k t) (lay_fits l s (omega (arith, length-append s t))) ∙ second_in l.at l.out s t h

-- if all texts fit, writing one after another writes them as one
pub lay_all_lem : (l : Laid) (ss : List (List ℕ)) → l.at + length (concat ss) ≤ length l.out → lay_all l ss ≡ lay l (concat ss)
lay_all_lem l [] h = sym (lay_nothing l)
lay_all_lem l (s ∷ ss) h =
    let e : length (s ++ concat ss) ≡ length s + length (concat ss) = length-append s (concat ss) in
    let at : (lay l s).at ≡ l.at + length s = ap (λ (k : Laid). k.at) (lay_fits l s (omega arith)) in
    let long : length (lay l s).out ≡ length l.out = length_lay l s in
    lay_all_lem (lay l s) ss (omega arith) ∙ lay_lay l s (concat ss) h

-- texts that fit as one text
pub lay_one : {r : Laid} (l : Laid) (ss : List (List ℕ)) (s : List ℕ) → concat ss ≡ s → l.at + length s ≤ length l.out → r ≡ lay l s → r ≡ lay_all l ss
lay_one l ss s e h f = f ∙ ap (lay l) (sym e) ∙ sym (lay_all_lem l ss (omega (arith, ap length e)))

behind_by : (b : Bool) (l : Laid) (s : List ℕ) → leb (l.at + length s) (length l.out) ≡ b → (lay l s).at ≤ l.at + length s
behind_by true l s e = le_of_eq (ap (λ (k : Laid). k.at) (lay_fits l s (leb-true _ _ e)))
behind_by false l s e = let same : (lay l s).at ≡ l.at = ap (λ (k : Laid). k.at) (lay_short l s (leb-false _ _ e)) in omega arith

-- the offset moves by no more than the texts' length
pub behind : {r : Laid} (l : Laid) (s : List ℕ) → r ≡ lay l s → r.at ≤ l.at + length s
behind l s e = let same = ap (λ (k : Laid). k.at) e in omega (arith, same, behind_by _ l s refl)

-- there is as much room behind a text as was left for
pub room_left : {r : Laid} (l : Laid) (s : List ℕ) (count : ℕ) → r ≡ lay l s → l.at + length s + count ≤ length l.out → r.at + count ≤ length r.out
room_left l s count e h = omega (arith, h, behind l s e, ap (λ (k : Laid). length k.out) e ∙ length_lay l s)

-- a text keeps the buffer's length
pub long_still : {r : Laid} (l : Laid) (s : List ℕ) → r ≡ lay l s → length r.out ≡ length l.out
long_still l s e = ap (λ (k : Laid). length k.out) e ∙ length_lay l s

-- What `lay` and `put` leave.

-- a text from its start on
pub all_left : (k n : ℕ) (s : List ℕ) → n ≡ 0 → length s ≤ k + n → take k (drop n s) ≡ s
all_left k n s e h = ap (λ (m : ℕ). take k (drop m s)) e ∙ take_all k s (omega (arith, e, h))

-- a text copied where there is room for it
pub copied : (at from k : ℕ) (out text new : List ℕ) → at + length text ≤ length out → from ≡ at → new ≡ text → length text ≡ k
    → laid (at + length text) (put_mid from k out new) ≡ lay (laid at out) text
copied at from k out text new h same e f =
    ap (λ (n : ℕ). laid (at + length text) (put_mid n k out new)) same
    ∙ ap (laid (at + length text))
    (put_mid-paste at k out new text (length text) e f refl
    ∙ ap (λ (s : List ℕ). take at out ++ s ++ drop (at + length text) out) (take-length text))
    ∙ sym (lay_fits (laid at out) text h)

-- nothing is written without room
pub put_short : (at : ℕ) (out s : List ℕ) → (at + length s ≤ length out → ⊥) → laid at out ≡ lay (laid at out) s
put_short at out s h = sym (lay_short (laid at out) s (omega (arith, h)))
