-- Laws about bites: a bite keeps the whole output, takes a byte or ends the run, and after enough bites no line is ready.
-- Assumes nothing.
use mathlib.Core.Path.{◌≡◌, refl, sym, ◌∙◌, ap, ap₂, subst}
use mathlib.Core.Bool.{Bool, true, false, cond, ◌&&◌, ◌||◌, false≢true}
use mathlib.Core.List.{List, [], ◌∷◌, ◌++◌, append-nil, append_assoc}
use Prim.Native.Nat.{ℕ, zero, suc, ◌+◌, ◌-◌, ◌≤◌, ◌<◌}
use native.Mathlib.Nat.{add-zero}
use native.Mathlib.Omega.{arith}
use borrow.Author.Tests.{ltb-true, ltb-false, lt-ltb, eqb-true}
use lib.Dec.{eqb, leb, ltb}
use lib.ListN.{length, take, drop, length-take, length-drop}
use lib.Seq.{take-length, drop-length, drop-drop}
use Rattle.kinds.specs.Tests.{same}
use Rattle.lines.specs.Lines.{crlf, lines_of}
use Rattle.lines.specs.Seen.{too_long, reach}
use Rattle.lines.proofs.Parting.{Long, whole_line, long_line, last_line, reach_all, reach_within}
use Rattle.parser.specs.Parsed.{parsed}
use Rattle.replies.specs.Replies.{room, refused_line}
use Rattle.sheet.specs.Sheet.{Told, told, refuse, header, longest, most_lines, on_header, on_parsed, on_line, answers}
use Rattle.sheet.specs.Pieces.{Held, next_line, whole, taken, sure, ready, after_line, bite, times, eaten, to_come, total}

-- what a line that is too long does, whatever it holds
unfoldable pub too_long_told : ℕ → List ℕ → Told
too_long_told k table = cond (eqb k 0) (refuse 6 0 table) (refuse 7 k table)

-- a line longer than the header is not the header
same_long : (l h : List ℕ) → length h < length l → same l h ≡ false
same_long [] h k = absurd (omega arith)
same_long (x ∷ l) [] k = refl
same_long (x ∷ l) (y ∷ h) k = go (eqb x y) (same_long l h (omega (arith, k)))
  where
    go : (b : Bool) → same l h ≡ false → b && same l h ≡ false
    go true e = e
    go false e = refl

header_short : length header < longest
unfolding header
header_short = omega arith

pub long_told : (k : ℕ) (table line : List ℕ) → longest < length line → on_line k table line ≡ too_long_told k table
unfolding on_line too_long_told
long_told k table line h = go (eqb k 0) (ltb most_lines (k + 1))
  where
    other : same line header ≡ false
    other = same_long line header (omega (arith, h, header_short))

    go : (b c : Bool)
        → cond b (on_header table line) (cond c (refuse 7 k table) (cond (ltb longest (length line)) (refuse 7 k table) (on_parsed k table (parsed line))))
        ≡ cond b (refuse 6 0 table) (refuse 7 k table)
    go true c = ap (λ b. cond b (told [] table true) (refuse 6 0 table)) other
    go false true = refl
    go false false = ap (λ b. cond b (refuse 7 k table) (on_parsed k table (parsed line))) (lt-ltb longest (length line) h)

too_long_ends : (k : ℕ) (table : List ℕ) → (too_long_told k table).goes ≡ false
unfolding too_long_told
too_long_ends k table = go (eqb k 0)
  where
    go : (b : Bool) → (cond b (refuse 6 0 table) (refuse 7 k table)).goes ≡ false
    go true = refl
    go false = refl

-- the output of a line, and then that of the lines after it
abbrev and_then : ℕ → Told → List (List ℕ) → List ℕ
and_then k t others = t.text ++ cond t.goes (answers (k + 1) t.table others) []

-- after the end of the run, the other lines do not matter
ends_all : (k : ℕ) (t : Told) (ls ls' : List (List ℕ)) → t.goes ≡ false → and_then k t ls ≡ and_then k t ls'
ends_all k t ls ls' e =
    ap (λ b. t.text ++ cond b (answers (k + 1) t.table ls) []) e ∙ sym (ap (λ b. t.text ++ cond b (answers (k + 1) t.table ls') []) e)

next_long : (rest : List ℕ) → reach too_long rest ≡ too_long → longest < length (next_line rest)
next_long rest e = subst (λ n. longest < n) (sym (length-take (reach too_long rest) rest)) (omega (arith, e, reach_within too_long rest))

-- a line that is known to be too long
long_seen : (k : ℕ) (table rest more : List ℕ) (ls : List (List ℕ)) → reach too_long rest ≡ too_long → too_long < length rest
    → answers k table (lines_of (rest ++ more)) ≡ and_then k (on_line k table (next_line rest)) ls
long_seen k table rest more ls e h =
    ap (answers k table) l.are
    ∙ ap (λ (t : Told). and_then k t l.others) (long_told k table l.line (omega (arith, l.long)))
    ∙ ends_all k (too_long_told k table) l.others ls (too_long_ends k table)
    ∙ sym (ap (λ (t : Told). and_then k t ls) (long_told k table (next_line rest) (next_long rest e)))
  where
    l : Long too_long (lines_of (rest ++ more))
    l = long_line too_long rest more e h

-- the last line, without its CR LF
last_seen : (k : ℕ) (table rest : List ℕ) → 0 < length rest → reach too_long rest ≡ length rest
    → answers k table (lines_of rest) ≡ and_then k (on_line k table (next_line rest)) (lines_of (drop (reach too_long rest) rest))
last_seen k table rest h e =
    ap (answers k table) (last_line too_long rest h e)
    ∙ ap₂ (λ (l : List ℕ) (ls : List (List ℕ)). and_then k (on_line k table l) ls)
    (sym (ap (λ n. take n rest) e ∙ take-length rest))
    (sym (ap lines_of (ap (λ n. drop n rest) e ∙ drop-length rest)))

-- an input without lines has no header
none_seen : (table : List ℕ) (ls : List (List ℕ)) → answers 0 table (lines_of []) ≡ and_then 0 (on_line 0 table []) ls
unfolding on_line header
none_seen table ls = sym (append-nil (refused_line 6 1))

pub nothing : (s : List ℕ) → length s ≤ 0 → s ≡ []
nothing [] h = refl
nothing (x ∷ s) h = absurd (omega arith)

-- the input has ended, and the rest has no CR LF and is not too long
end_seen : (k : ℕ) (table rest : List ℕ) → whole rest ≡ false → length rest ≤ too_long → ltb 0 (length rest) || eqb k 0 ≡ true
    → answers k table (lines_of rest) ≡ and_then k (on_line k table (next_line rest)) (lines_of (drop (reach too_long rest) rest))
unfolding whole
end_seen k table rest w short h = go (ltb 0 (length rest)) refl h
  where
    go : (b : Bool) → ltb 0 (length rest) ≡ b → b || eqb k 0 ≡ true
        → answers k table (lines_of rest) ≡ and_then k (on_line k table (next_line rest)) (lines_of (drop (reach too_long rest) rest))
    go true e f = last_seen k table rest (ltb-true 0 (length rest) e) (omega (arith, reach_all too_long rest w, short))
    go false e f =
        subst (λ n. answers n table (lines_of rest) ≡ and_then n (on_line n table (next_line rest)) (lines_of (drop (reach too_long rest) rest))) (sym (eqb-true k 0 f))
        (subst (λ (s : List ℕ). answers 0 table (lines_of s) ≡ and_then 0 (on_line 0 table (next_line s)) (lines_of (drop (reach too_long s) s))) (sym (nothing rest (ltb-false 0 (length rest) e)))
        (none_seen table []))

-- if enough of the next line is known, the output is that of the line, and then that of the rest
pub line_seen : (ended : Bool) (k : ℕ) (table rest more : List ℕ) → sure ended k rest ≡ true → (ended ≡ true → more ≡ [])
    → answers k table (lines_of (rest ++ more)) ≡ and_then k (on_line k table (next_line rest)) (lines_of (drop (taken rest) rest ++ more))
unfolding sure taken whole
line_seen ended k table rest more h f = go (whole rest) refl (ltb too_long (length rest)) refl ended refl h
  where
    Seen : Bool → Type 0
    Seen b = answers k table (lines_of (rest ++ more)) ≡ and_then k (on_line k table (next_line rest)) (lines_of (drop (reach too_long rest + cond b 2 0) rest ++ more))

    all_of : more ≡ [] → rest ++ more ≡ rest
    all_of e = ap (λ (s : List ℕ). rest ++ s) e ∙ append-nil rest

    go : (b : Bool) → whole rest ≡ b → (c : Bool) → ltb too_long (length rest) ≡ c → (d : Bool) → ended ≡ d
        → b || (c || (d && (ltb 0 (length rest) || eqb k 0))) ≡ true → Seen b
    go true e c e₂ d e₃ g = ap (answers k table) (whole_line too_long rest more e)
    go false e true e₂ d e₃ g =
        long_seen k table rest more (lines_of (drop (reach too_long rest + 0) rest ++ more)) (omega (arith, reach_all too_long rest e, ltb-true too_long (length rest) e₂))
        (ltb-true too_long (length rest) e₂)
    go false e false e₂ true e₃ g =
        ap (λ (s : List ℕ). answers k table (lines_of s)) (all_of (f e₃))
        ∙ end_seen k table rest e (ltb-false too_long (length rest) e₂) g
        ∙ ap (λ (s : List ℕ). and_then k (on_line k table (next_line rest)) (lines_of s))
        (ap (λ n. drop n rest) (sym (add-zero (reach too_long rest))) ∙ sym (ap (λ (s : List ℕ). drop (reach too_long rest + 0) rest ++ s) (f e₃) ∙ append-nil (drop (reach too_long rest + 0) rest)))
    go false e false e₂ false e₃ g = absurd (false≢true g)

count_by_goes : (b : Bool) (k : ℕ) (table : List ℕ) (ls : List (List ℕ))
    → cond b (answers (cond b (k + 1) k) table ls) [] ≡ cond b (answers (k + 1) table ls) []
count_by_goes true k table ls = refl
count_by_goes false k table ls = refl

-- the run's next line, judged
abbrev next_told : Held → Told
next_told h = on_line h.lines h.table (next_line h.rest)

taken_keeps : (h : Held) (more : List ℕ)
    → answers h.lines h.table (lines_of (h.rest ++ more)) ≡ and_then h.lines (next_told h) (lines_of (drop (taken h.rest) h.rest ++ more))
    → h.going ≡ true → total (after_line h (next_told h)) more ≡ total h more
unfolding total to_come
taken_keeps h more e g =
    append_assoc h.text (next_told h).text _
    ∙ ap (λ (s : List ℕ). h.text ++ ((next_told h).text ++ s))
    (count_by_goes (next_told h).goes h.lines (next_told h).table (lines_of (drop (taken h.rest) h.rest ++ more)))
    ∙ ap (λ (s : List ℕ). h.text ++ s) (sym e)
    ∙ sym (ap (λ b. h.text ++ cond b (answers h.lines h.table (lines_of (h.rest ++ more))) []) g)

-- a test of three parts, taken apart
both3 : (a b c : Bool) → a && (b && c) ≡ true → (a ≡ true) × (b ≡ true) × (c ≡ true)
both3 true true true h = (refl, refl, refl)
both3 true true false h = absurd (false≢true h)
both3 true false c h = absurd (false≢true h)
both3 false b c h = absurd (false≢true h)

-- a line can be taken: the run goes on, there is room, and enough of the line is known
pub record Ready (ended : Bool) (space : ℕ) (h : Held) : Type 0 where
  pub goes_on : h.going ≡ true
  pub has_room : leb (length h.text + room) space ≡ true
  pub is_sure : sure ended h.lines h.rest ≡ true

pub is_ready : (ended : Bool) (space : ℕ) (h : Held) → ready ended space h ≡ true → Ready ended space h
unfolding ready
is_ready ended space h e =
    let p = both3 h.going (leb (length h.text + room) space) (sure ended h.lines h.rest) e in
    record { goes_on = p.0; has_room = p.1; is_sure = p.2 }

pub bite_ready : (ended : Bool) (space : ℕ) (h : Held) → ready ended space h ≡ true → bite ended space h ≡ after_line h (next_told h)
unfolding bite
bite_ready ended space h e = ap (λ b. cond b (after_line h (next_told h)) h) e

pub bite_stuck : (ended : Bool) (space : ℕ) (h : Held) → ready ended space h ≡ false → bite ended space h ≡ h
unfolding bite
bite_stuck ended space h e = ap (λ b. cond b (after_line h (next_told h)) h) e

-- a bite does not change the whole output
pub bite_keeps : (ended : Bool) (space : ℕ) (h : Held) (more : List ℕ) → (ended ≡ true → more ≡ []) → total (bite ended space h) more ≡ total h more
bite_keeps ended space h more f = go (ready ended space h) refl
  where
    go : (b : Bool) → ready ended space h ≡ b → total (bite ended space h) more ≡ total h more
    go true e =
        let r = is_ready ended space h e in
        ap (λ x. total x more) (bite_ready ended space h e)
        ∙ taken_keeps h more (line_seen ended h.lines h.table h.rest more r.is_sure f) r.goes_on
    go false e = ap (λ x. total x more) (bite_stuck ended space h e)

times_keeps : (n : ℕ) (ended : Bool) (space : ℕ) (h : Held) (more : List ℕ) → (ended ≡ true → more ≡ []) → total (times n (bite ended space) h) more ≡ total h more
times_keeps zero ended space h more f = refl
times_keeps (suc n) ended space h more f = times_keeps n ended space (bite ended space h) more f ∙ bite_keeps ended space h more f

pub eaten_keeps : (ended : Bool) (space : ℕ) (h : Held) (more : List ℕ) → (ended ≡ true → more ≡ []) → total (eaten ended space h) more ≡ total h more
unfolding eaten
eaten_keeps ended space h more f = times_keeps (suc (length h.rest)) ended space h more f

-- what a run has left to do: the bytes it holds, and its end
unfoldable pub size : Held → ℕ
size h = length h.rest + cond h.going 1 0

-- an empty line 1 ends the run, and so does a line that is too long
no_lines_ends : (table : List ℕ) → (on_line 0 table []).goes ≡ false
unfolding on_line header
no_lines_ends table = refl

long_ends : (k : ℕ) (table line : List ℕ) → longest < length line → (on_line k table line).goes ≡ false
long_ends k table line h = ap (λ (t : Told). t.goes) (long_told k table line h) ∙ too_long_ends k table

-- a CR LF is two bytes
two_bytes : (s : List ℕ) → crlf s ≡ true → 2 ≤ length s
two_bytes [] h = absurd (false≢true h)
two_bytes (x ∷ []) h = absurd (false≢true h)
two_bytes (x ∷ y ∷ s) h = omega arith

-- no more bytes are taken than there are
pub taken_within : (rest : List ℕ) → taken rest ≤ length rest
unfolding taken whole
taken_within rest = go (whole rest) refl
  where
    go : (b : Bool) → whole rest ≡ b → reach too_long rest + cond b 2 0 ≤ length rest
    go true e = omega (arith, subst (λ n. 2 ≤ n) (length-drop (reach too_long rest) rest) (two_bytes (drop (reach too_long rest) rest) e))
    go false e = omega (arith, reach_within too_long rest)

-- if the run goes on after a line, the line took at least one byte
goes_takes : (ended : Bool) (k : ℕ) (table rest : List ℕ) → sure ended k rest ≡ true → (on_line k table (next_line rest)).goes ≡ true
    → length (drop (taken rest) rest) < length rest
unfolding sure taken whole
goes_takes ended k table rest h g = subst (λ n. n < length rest) (sym (length-drop (taken rest) rest)) (go (whole rest) refl (ltb too_long (length rest)) refl ended h)
  where
    r : ℕ
    r = reach too_long rest

    go : (b : Bool) → whole rest ≡ b → (c : Bool) → ltb too_long (length rest) ≡ c → (d : Bool)
        → b || (c || (d && (ltb 0 (length rest) || eqb k 0))) ≡ true → length rest - (reach too_long rest + cond b 2 0) < length rest
    go true e c e₂ d f = omega (arith, subst (λ n. 2 ≤ n) (length-drop (reach too_long rest) rest) (two_bytes (drop (reach too_long rest) rest) e))
    go false e true e₂ d f =
        absurd (false≢true (sym (long_ends k table (next_line rest) (next_long rest (omega (arith, reach_all too_long rest e, ltb-true too_long (length rest) e₂)))) ∙ g))
    go false e false e₂ true f = some (ltb 0 (length rest)) refl f
      where
        some : (b : Bool) → ltb 0 (length rest) ≡ b → b || eqb k 0 ≡ true → length rest - (reach too_long rest + 0) < length rest
        some true e₄ f₄ = omega (arith, reach_all too_long rest e, ltb-false too_long (length rest) e₂, ltb-true 0 (length rest) e₄)
        some false e₄ f₄ =
            absurd (false≢true (sym (no_lines_ends table) ∙ sym (ap₂ (λ (n : ℕ) (s : List ℕ). (on_line n table (next_line s)).goes) (eqb-true k 0 f₄) (nothing rest (ltb-false 0 (length rest) e₄))) ∙ g))
    go false e false e₂ false f = absurd (false≢true f)

rest_within : (h : Held) → length (drop (taken h.rest) h.rest) ≤ length h.rest
rest_within h = subst (λ n. n ≤ length h.rest) (sym (length-drop (taken h.rest) h.rest)) (omega arith)

pub bite_less : (ended : Bool) (space : ℕ) (h : Held) → ready ended space h ≡ true → size (bite ended space h) < size h
unfolding size
bite_less ended space h e =
    subst (λ x. size x < size h) (sym (bite_ready ended space h e))
    (subst (λ b. length (drop (taken h.rest) h.rest) + cond (next_told h).goes 1 0 < length h.rest + cond b 1 0) (sym r.goes_on) (go (next_told h).goes refl))
  where
    r : Ready ended space h
    r = is_ready ended space h e

    go : (b : Bool) → (next_told h).goes ≡ b → length (drop (taken h.rest) h.rest) + cond b 1 0 < length h.rest + 1
    go true g = omega (arith, goes_takes ended h.lines h.table h.rest r.is_sure g)
    go false g = omega (arith, rest_within h)

times_stuck : (n : ℕ) (ended : Bool) (space : ℕ) (h : Held) → ready ended space h ≡ false → times n (bite ended space) h ≡ h
times_stuck zero ended space h e = refl
times_stuck (suc n) ended space h e = ap (times n (bite ended space)) (bite_stuck ended space h e) ∙ times_stuck n ended space h e

-- after as many bites as the run has left to do, further bites change nothing
enough : (n m : ℕ) (ended : Bool) (space : ℕ) (h : Held) (b : Bool) → ready ended space h ≡ b → size h ≤ n → size h ≤ m
    → times n (bite ended space) h ≡ times m (bite ended space) h
enough zero m ended space h true e p q = absurd (omega (arith, bite_less ended space h e))
enough zero m ended space h false e p q = sym (times_stuck m ended space h e)
enough (suc n) zero ended space h true e p q = absurd (omega (arith, bite_less ended space h e))
enough (suc n) zero ended space h false e p q = times_stuck (suc n) ended space h e
enough (suc n) (suc m) ended space h true e p q =
    let h' = bite ended space h in
    enough n m ended space h' (ready ended space h') refl (omega (arith, p, bite_less ended space h e)) (omega (arith, q, bite_less ended space h e))
enough (suc n) (suc m) ended space h false e p q = times_stuck (suc n) ended space h e ∙ sym (times_stuck (suc m) ended space h e)

size_most : (h : Held) → size h ≤ suc (length h.rest)
unfolding size
size_most h = go h.going
  where
    go : (b : Bool) → length h.rest + cond b 1 0 ≤ suc (length h.rest)
    go true = omega arith
    go false = omega arith

-- a bite before eating makes no difference
pub eaten_bite : (ended : Bool) (space : ℕ) (h : Held) → eaten ended space h ≡ eaten ended space (bite ended space h)
unfolding eaten
eaten_bite ended space h = go (ready ended space h) refl
  where
    h' : Held
    h' = bite ended space h

    go : (b : Bool) → ready ended space h ≡ b
        → times (suc (length h.rest)) (bite ended space) h ≡ times (suc (length (bite ended space h).rest)) (bite ended space) (bite ended space h)
    go true e =
        enough (length h.rest) (suc (length h'.rest)) ended space h' (ready ended space h') refl
        (omega (arith, bite_less ended space h e, size_most h)) (size_most h')
    go false e =
        times_stuck (suc (length h.rest)) ended space h e
        ∙ sym (ap (λ x. times (suc (length x.rest)) (bite ended space) x) (bite_stuck ended space h e) ∙ times_stuck (suc (length h.rest)) ended space h e)

-- a run that is not ready eats nothing
pub eaten_stuck : (ended : Bool) (space : ℕ) (h : Held) → ready ended space h ≡ false → eaten ended space h ≡ h
unfolding eaten
eaten_stuck ended space h e = times_stuck (suc (length h.rest)) ended space h e

bite_not_more : (ended : Bool) (space : ℕ) (h : Held) → size (bite ended space h) ≤ size h
bite_not_more ended space h = go (ready ended space h) refl
  where
    go : (b : Bool) → ready ended space h ≡ b → size (bite ended space h) ≤ size h
    go true e = omega (arith, bite_less ended space h e)
    go false e = subst (λ x. size x ≤ size h) (sym (bite_stuck ended space h e)) (omega arith)

times_not_more : (n : ℕ) (ended : Bool) (space : ℕ) (h : Held) → size (times n (bite ended space) h) ≤ size h
times_not_more zero ended space h = omega arith
times_not_more (suc n) ended space h = omega (arith, times_not_more n ended space (bite ended space h), bite_not_more ended space h)

pub eaten_not_more : (ended : Bool) (space : ℕ) (h : Held) → size (eaten ended space h) ≤ size h
unfolding eaten
eaten_not_more ended space h = times_not_more (suc (length h.rest)) ended space h

-- eating leaves less to do, if a line is ready
pub eaten_less : (ended : Bool) (space : ℕ) (h : Held) → ready ended space h ≡ true → size (eaten ended space h) < size h
unfolding eaten
eaten_less ended space h e = omega (arith, times_not_more (length h.rest) ended space (bite ended space h), bite_less ended space h e)

stuck_after : (n : ℕ) (ended : Bool) (space : ℕ) (h : Held) (b : Bool) → ready ended space h ≡ b → size h ≤ n → ready ended space (times n (bite ended space) h) ≡ false
stuck_after zero ended space h true e p = absurd (omega (arith, bite_less ended space h e))
stuck_after zero ended space h false e p = e
stuck_after (suc n) ended space h true e p =
    let h' = bite ended space h in
    stuck_after n ended space h' (ready ended space h') refl (omega (arith, p, bite_less ended space h e))
stuck_after (suc n) ended space h false e p = ap (ready ended space) (times_stuck (suc n) ended space h e) ∙ e

-- eating stops only if no line is ready
pub eaten_stops : (ended : Bool) (space : ℕ) (h : Held) → ready ended space (eaten ended space h) ≡ false
unfolding eaten
eaten_stops ended space h = stuck_after (suc (length h.rest)) ended space h (ready ended space h) refl (size_most h)

-- `part` is a suffix of `all`
pub record Rest (all part : List ℕ) : Type 0 where
  pub cut : ℕ
  pub inside : cut ≤ length all
  pub so : part ≡ drop cut all

pub rest_short : {all part : List ℕ} → Rest all part → length part ≤ length all
rest_short {all} r = omega (arith, ap length r.so, length-drop r.cut all)

rest_of_rest : {a b c : List ℕ} → Rest a b → Rest b c → Rest a c
rest_of_rest {a} {b} {c} x y = record {
  cut = x.cut + y.cut;
  inside = omega (arith, y.inside, x.inside, ap length x.so, length-drop x.cut a);
  so = y.so ∙ ap (drop y.cut) x.so ∙ drop-drop y.cut x.cut a;
}

bite_rest : (ended : Bool) (space : ℕ) (h : Held) → Rest h.rest (bite ended space h).rest
unfolding bite
bite_rest ended space h = go (ready ended space h)
  where
    go : (b : Bool) → Rest h.rest (cond b (after_line h (on_line h.lines h.table (next_line h.rest))) h).rest
    go true = record { cut = taken h.rest; inside = taken_within h.rest; so = refl }
    go false = record { cut = 0; inside = omega arith; so = refl }

times_rest : (n : ℕ) (ended : Bool) (space : ℕ) (h : Held) → Rest h.rest (times n (bite ended space) h).rest
times_rest zero ended space h = record { cut = 0; inside = omega arith; so = refl }
times_rest (suc n) ended space h = rest_of_rest (bite_rest ended space h) (times_rest n ended space (bite ended space h))

pub eaten_rest : (ended : Bool) (space : ℕ) (h : Held) → Rest h.rest (eaten ended space h).rest
unfolding eaten
eaten_rest ended space h = times_rest (suc (length h.rest)) ended space h

-- a suffix is what is left after dropping the difference of the lengths
pub taken_off : {all part : List ℕ} → Rest all part → drop (length all - length part) all ≡ part
taken_off {all} {part} r = ap (λ n. drop n all) counted ∙ sym r.so
  where
    counted : length all - length part ≡ r.cut
    counted = omega (arith, r.inside, ap length r.so, length-drop r.cut all)
