-- Names in both directions: in each column, a field has a name's code exactly when it is that name, and is unknown exactly when it is no
-- name of the column. Also the limits of each column's codes.
-- Assumes nothing.
use mathlib.Core.Path.{◌≡◌, refl, sym, ◌∙◌, ap, subst}
use mathlib.Core.Bool.{Bool, true, false, cond, not, ◌&&◌, true≢false, false≢true}
use mathlib.Core.List.{List, [], ◌∷◌, map}
use mathlib.Core.Logic.{◌↔◌, ◌⊎◌, inl, inr}
use Prim.Native.Nat.{ℕ, ◌+◌, ◌*◌, ◌-◌, ◌^◌, ◌<◌, ◌≤◌}
use native.Mathlib.Nat.{pow-suc, le_trans, lt_of_lt_of_le, mul-le-mul_right, mul_assoc, mul_comm, pow-le-pow_right}
use native.Mathlib.Omega.{arith}
use borrow.Author.Tests.{eqb-true, eqb-false, eq-eqb, ltb-true, ltb-false, lt-ltb, leb-true, not-true}
use lib.Dec.{eqb, ltb, leb}
use lib.ListN.{length}
use Rattle.text.specs.Text.{bytes}
use Rattle.kinds.specs.Tests.{same, all}
use Rattle.kinds.proofs.Lists.{In, here, there, and_left, and_right, and_both, all_at, same_equal}
use Rattle.names.specs.Names.{Named, unknown, code_of, request_names, flag_names, tag_names, responses, response_names, tag_op_names, resp_err_names}
use Rattle.names.specs.Names.{forward_names, final_names, fwd_err_names, most_digits, is_digit, leading_zero, is_pair, read_decimal, pair_of, columns}

-- `same` is the equality of lists; the other direction is `same_equal` of kinds
pub same_self : (f : List ℕ) → same f f ≡ true
same_self [] = refl
same_self (x ∷ xs) = and_both (eq-eqb x x refl) (same_self xs)

pub equal_same : (f n : List ℕ) → f ≡ n → same f n ≡ true
equal_same f n h = ap (same f) (sym h) ∙ same_self f

-- the two results of searching a field among names
pub data Sought (ns : List Named) (f : List ℕ) : Type 0 where
  none : code_of ns f ≡ unknown → ((n : Named) → In n ns → f ≡ n.name → ⊥) → Sought ns f
  found : (n : Named) → In n ns → f ≡ n.name → code_of ns f ≡ n.code → Sought ns f

no_name : {f : List ℕ} (n : Named) → In n [] → f ≡ n.name → ⊥
no_name n i h = absurd (false≢true (all_at (λ (m : Named). false) refl i))

not_this : (m : Named) (ms : List Named) (f : List ℕ) → same f m.name ≡ false → ((n : Named) → In n ms → f ≡ n.name → ⊥)
    → (n : Named) → In n (m ∷ ms) → f ≡ n.name → ⊥
not_this m ms f h k n here e = true≢false (sym (equal_same f m.name e) ∙ h)
not_this m ms f h k n (there i) e = k n i e

pub seek : (ns : List Named) (f : List ℕ) → Sought ns f
unfolding code_of
seek [] f = none refl no_name
seek (m ∷ ms) f = go (same f m.name) refl (seek ms f)
  where
    go : (b : Bool) → same f m.name ≡ b → Sought ms f → Sought (m ∷ ms) f
    go true h s = found m here (same_equal f m.name h) (ap (λ (b : Bool). cond b m.code (code_of ms f)) h)
    go false h (none p q) = none (ap (λ (b : Bool). cond b m.code (code_of ms f)) h ∙ p) (not_this m ms f h q)
    go false h (found n i p q) = found n (there i) p (ap (λ (b : Bool). cond b m.code (code_of ms f)) h ∙ q)

-- two tests agree
agree : Bool → Bool → Bool
agree a b = cond a b (not b)

-- no code is the sentinel, and two names are equal exactly when their codes are
tidy : List Named → Bool
tidy ns = all (λ (m : Named). not (eqb m.code unknown) && all (λ (n : Named). agree (same m.name n.name) (eqb m.code n.code)) ns) ns

-- the names and the codes of a column are one to one
pub record OneToOne (ns : List Named) : Type 0 where
  pub known_exactly : (n : Named) → In n ns → (f : List ℕ) → (code_of ns f ≡ n.code) ↔ (f ≡ n.name)
  pub unknown_exactly : (f : List ℕ) → (code_of ns f ≡ unknown) ↔ ((n : Named) → In n ns → f ≡ n.name → ⊥)

agree_right : (a b : Bool) → agree a b ≡ true → a ≡ true → b ≡ true
unfolding agree
agree_right true b h k = h
agree_right false b h k = absurd (false≢true k)

agree_left : (a b : Bool) → agree a b ≡ true → b ≡ true → a ≡ true
unfolding agree
agree_left true b h k = refl
agree_left false b h k = absurd (true≢false (sym k ∙ not-true b h))

module _ (ns : List Named) (t : tidy ns ≡ true) where
  known_code : (n : Named) → In n ns → n.code ≡ unknown → ⊥
  unfolding tidy
  known_code n i =
      eqb-false n.code unknown
      (not-true (eqb n.code unknown)
      (and_left (not (eqb n.code unknown)) (all (λ (m : Named). agree (same n.name m.name) (eqb n.code m.code)) ns)
      (all_at (λ (m : Named). not (eqb m.code unknown) && all (λ (k : Named). agree (same m.name k.name) (eqb m.code k.code)) ns) t i)))

  agreed : (m n : Named) → In m ns → In n ns → agree (same m.name n.name) (eqb m.code n.code) ≡ true
  unfolding tidy
  agreed m n i j =
      all_at (λ (k : Named). agree (same m.name k.name) (eqb m.code k.code))
      (and_right (not (eqb m.code unknown)) (all (λ (k : Named). agree (same m.name k.name) (eqb m.code k.code)) ns)
      (all_at (λ (q : Named). not (eqb q.code unknown) && all (λ (k : Named). agree (same q.name k.name) (eqb q.code k.code)) ns) t i))
      j

  one_name : (m n : Named) → In m ns → In n ns → m.code ≡ n.code → m.name ≡ n.name
  one_name m n i j h =
      same_equal m.name n.name
      (agree_left (same m.name n.name) (eqb m.code n.code) (agreed m n i j) (eq-eqb m.code n.code h))

  one_code : (m n : Named) → In m ns → In n ns → m.name ≡ n.name → m.code ≡ n.code
  one_code m n i j h =
      eqb-true m.code n.code
      (agree_right (same m.name n.name) (eqb m.code n.code) (agreed m n i j) (equal_same m.name n.name h))

  from_code : (n : Named) → In n ns → (f : List ℕ) → Sought ns f → code_of ns f ≡ n.code → f ≡ n.name
  from_code n i f (none p q) h = absurd (known_code n i (sym h ∙ p))
  from_code n i f (found m j p q) h = p ∙ one_name m n j i (sym q ∙ h)

  from_name : (n : Named) → In n ns → (f : List ℕ) → Sought ns f → f ≡ n.name → code_of ns f ≡ n.code
  from_name n i f (none p q) h = absurd (q n i h)
  from_name n i f (found m j p q) h = q ∙ one_code m n j i (sym p ∙ h)

  from_unknown : (f : List ℕ) → Sought ns f → code_of ns f ≡ unknown → (n : Named) → In n ns → f ≡ n.name → ⊥
  from_unknown f (none p q) h n i e = q n i e
  from_unknown f (found m j p q) h n i e = known_code m j (sym q ∙ h)

  from_none : (f : List ℕ) → Sought ns f → ((n : Named) → In n ns → f ≡ n.name → ⊥) → code_of ns f ≡ unknown
  from_none f (none p q) h = p
  from_none f (found m j p q) h = absurd (h m j p)

  one_to_one : OneToOne ns
  one_to_one =
      record {
        known_exactly = λ n i f. (from_code n i f (seek ns f), from_name n i f (seek ns f));
        unknown_exactly = λ f. (from_unknown f (seek ns f), from_none f (seek ns f));
      }

-- each column of names is one to one
pub requests_both_ways : OneToOne request_names
unfolding tidy agree request_names
requests_both_ways = one_to_one request_names refl

pub flags_both_ways : OneToOne flag_names
unfolding tidy agree flag_names
flags_both_ways = one_to_one flag_names refl

pub tags_both_ways : OneToOne tag_names
unfolding tidy agree tag_names
tags_both_ways = one_to_one tag_names refl

pub responses_both_ways : OneToOne response_names
unfolding tidy agree responses response_names
responses_both_ways = one_to_one response_names refl

pub tag_ops_both_ways : OneToOne tag_op_names
unfolding tidy agree tag_op_names
tag_ops_both_ways = one_to_one tag_op_names refl

pub resp_errs_both_ways : OneToOne resp_err_names
unfolding tidy agree resp_err_names
resp_errs_both_ways = one_to_one resp_err_names refl

pub forwards_both_ways : OneToOne forward_names
unfolding tidy agree forward_names
forwards_both_ways = one_to_one forward_names refl

pub finals_both_ways : OneToOne final_names
unfolding tidy agree final_names
finals_both_ways = one_to_one final_names refl

pub fwd_errs_both_ways : OneToOne fwd_err_names
unfolding tidy agree resp_err_names fwd_err_names
fwd_errs_both_ways = one_to_one fwd_err_names refl

-- if all codes of a column are below a limit, every known field's code is
pub codes_below : (ns : List Named) (limit : ℕ) → all (λ (n : Named). ltb n.code limit) ns ≡ true → (f : List ℕ)
    → (code_of ns f ≡ unknown) ⊎ (code_of ns f < limit)
codes_below ns limit t f = go (seek ns f)
  where
    go : Sought ns f → (code_of ns f ≡ unknown) ⊎ (code_of ns f < limit)
    go (none p q) = inl p
    go (found n i p q) = inr (omega (arith, q, ltb-true n.code limit (all_at (λ (m : Named). ltb m.code limit) t i)))

-- one more digit
digit_more : (v d p q : ℕ) → d ≤ 57 → q < (v * 10 + (d - 48) + 1) * p → q < (v + 1) * (p * 10)
digit_more v d p q h k =
    let le : v * 10 + (d - 48) + 1 ≤ (v + 1) * 10 = omega arith in
    subst (λ (n : ℕ). q < n) (mul_assoc (v + 1) 10 p ∙ ap (λ (n : ℕ). (v + 1) * n) (mul_comm 10 p)) (lt_of_lt_of_le k (mul-le-mul_right p le))

-- a number of n digits is below 10 to the n
decimal_below : (v : ℕ) (f : List ℕ) → all is_digit f ≡ true → read_decimal v f < (v + 1) * 10 ^ length f
unfolding read_decimal
decimal_below v [] h = omega arith
decimal_below v (d ∷ ds) h =
    rw pow-suc
    (digit_more v d (10 ^ length ds) (read_decimal (v * 10 + (d - 48)) ds)
    (leb-true d 57 (and_right (leb 48 d) (leb d 57) (and_left (is_digit d) (all is_digit ds) h)))
    (decimal_below (v * 10 + (d - 48)) ds (and_right (is_digit d) (all is_digit ds) h)))

-- what the test of a pair's field means, part by part
all_digits : (f : List ℕ) → is_pair f ≡ true → all is_digit f ≡ true
unfolding is_pair
all_digits f h =
    let a = all is_digit f in
    let b = a && ltb 0 (length f) in
    let c = b && leb (length f) most_digits in
    and_left a (ltb 0 (length f)) (and_left b (leb (length f) most_digits) (and_left c (not (leading_zero f)) h))

not_long : (f : List ℕ) → is_pair f ≡ true → length f ≤ most_digits
unfolding is_pair
not_long f h =
    let b = all is_digit f && ltb 0 (length f) in
    let c = b && leb (length f) most_digits in
    leb-true (length f) most_digits (and_right b (leb (length f) most_digits) (and_left c (not (leading_zero f)) h))

some_digit : (f : List ℕ) → is_pair f ≡ true → 0 < length f
unfolding is_pair
some_digit f h =
    let a = all is_digit f in
    let b = a && ltb 0 (length f) in
    let c = b && leb (length f) most_digits in
    ltb-true 0 (length f) (and_right a (ltb 0 (length f)) (and_left b (leb (length f) most_digits) (and_left c (not (leading_zero f)) h)))

not_zero : (d : ℕ) (ds : List ℕ) → is_pair (d ∷ ds) ≡ true → 1 < length (d ∷ ds) → d ≡ 48 → ⊥
unfolding is_pair
not_zero d ds h l e =
    let c = all is_digit (d ∷ ds) && ltb 0 (length (d ∷ ds)) && leb (length (d ∷ ds)) most_digits in
    true≢false
    (sym (and_both (eq-eqb d 48 e) (lt-ltb 1 (length (d ∷ ds)) l))
    ∙ not-true (leading_zero (d ∷ ds)) (and_right c (not (leading_zero (d ∷ ds))) h))

-- every pair number is below this
abbrev pub pair_limit : ℕ
pair_limit = 10 ^ most_digits

pub few_digits : (f : List ℕ) → is_pair f ≡ true → read_decimal 0 f < pair_limit
few_digits f h =
    let le : 10 ^ length f ≤ pair_limit = pow-le-pow_right (omega arith) (not_long f h) in
    omega (arith, le, decimal_below 0 f (all_digits f h))

pub pair_below : (f : List ℕ) → (pair_of f ≡ unknown) ⊎ (pair_of f < pair_limit)
unfolding pair_of
pair_below f = go (is_pair f) refl
  where
    go : (b : Bool) → is_pair f ≡ b → (cond b (read_decimal 0 f) unknown ≡ unknown) ⊎ (cond b (read_decimal 0 f) unknown < pair_limit)
    go false h = inl refl
    go true h = inr (few_digits f h)

-- the bounds of a digit
low : (d : ℕ) → is_digit d ≡ true → 48 ≤ d
low d h = leb-true 48 d (and_left (leb 48 d) (leb d 57) h)

high : (d : ℕ) → is_digit d ≡ true → d ≤ 57
high d h = leb-true d 57 (and_right (leb 48 d) (leb d 57) h)

-- equally many digits with the same value are the same digits
same_digits : (v w : ℕ) (f g : List ℕ) → length f ≡ length g → all is_digit f ≡ true → all is_digit g ≡ true → read_decimal v f ≡ read_decimal w g → (v ≡ w) × (f ≡ g)
unfolding read_decimal
same_digits v w [] [] l p q h = (h, refl)
same_digits v w [] (e ∷ es) l p q h = absurd (omega (arith, l))
same_digits v w (d ∷ ds) [] l p q h = absurd (omega (arith, l))
same_digits v w (d ∷ ds) (e ∷ es) l p q h =
    let dp = and_left (is_digit d) (all is_digit ds) p in
    let ep = and_left (is_digit e) (all is_digit es) q in
    let r = same_digits (v * 10 + (d - 48)) (w * 10 + (e - 48)) ds es (omega (arith, l)) (and_right (is_digit d) (all is_digit ds) p) (and_right (is_digit e) (all is_digit es) q) h in
    let first : d ≡ e = omega (arith, r.0, low d dp, high d dp, low e ep, high e ep) in
    let rest : ds ≡ es = r.1 in
    (omega (arith, r.0, low d dp, high d dp, low e ep, high e ep), cc)

-- reading n digits on from v gives at least v times 10 to the n
decimal_above : (v : ℕ) (f : List ℕ) → v * 10 ^ length f ≤ read_decimal v f
unfolding read_decimal
decimal_above v [] = omega arith
decimal_above v (d ∷ ds) =
    rw pow-suc
    (le_trans
    (subst (λ (n : ℕ). n ≤ (v * 10 + (d - 48)) * 10 ^ length ds)
    (mul_assoc v 10 (10 ^ length ds) ∙ ap (λ (n : ℕ). v * n) (mul_comm 10 (10 ^ length ds)))
    (mul-le-mul_right (10 ^ length ds) (omega arith)))
    (decimal_above (v * 10 + (d - 48)) ds))

-- a pair field of more than one digit stands for at least 10 to the number of the others
pub pair_above : (d : ℕ) (ds : List ℕ) → is_pair (d ∷ ds) ≡ true → 0 < length ds → 10 ^ length ds ≤ read_decimal 0 (d ∷ ds)
unfolding read_decimal
pair_above d ds p l =
    let digit = low d (and_left (is_digit d) (all is_digit ds) (all_digits (d ∷ ds) p)) in
    let more : 1 * 10 ^ length ds ≤ (0 * 10 + (d - 48)) * 10 ^ length ds = mul-le-mul_right (10 ^ length ds) (omega (arith, digit, not_zero d ds p (omega (arith, l)))) in
    omega (arith, more, decimal_above (0 * 10 + (d - 48)) ds)

-- a shorter pair field never has the same value
shorter : (f g : List ℕ) → is_pair f ≡ true → is_pair g ≡ true → length f < length g → read_decimal 0 f ≡ read_decimal 0 g → ⊥
shorter f [] p q l h = omega arith
shorter f (e ∷ es) p q l h =
    let above = pair_above e es q (omega (arith, some_digit f p, l)) in
    let below = decimal_below 0 f (all_digits f p) in
    let wide : 10 ^ length f ≤ 10 ^ length es = pow-le-pow_right (omega arith) (omega (arith, l)) in
    omega (arith, above, below, wide, h)

-- pair fields with the same value are the same field
one_field : (f g : List ℕ) → is_pair f ≡ true → is_pair g ≡ true → read_decimal 0 f ≡ read_decimal 0 g → f ≡ g
one_field f g p q h = go (ltb (length f) (length g)) refl (ltb (length g) (length f)) refl
  where
    go : (a : Bool) → ltb (length f) (length g) ≡ a → (b : Bool) → ltb (length g) (length f) ≡ b → f ≡ g
    go true k b l = absurd (shorter f g p q (ltb-true (length f) (length g) k) h)
    go false k true l = absurd (shorter g f q p (ltb-true (length g) (length f) l) (sym h))
    go false k false l =
        (same_digits 0 0 f g (omega (arith, ltb-false (length f) (length g) k, ltb-false (length g) (length f) l)) (all_digits f p) (all_digits g q) h).1

-- each pair has only one field: two known fields with the same number are equal
pub pair_one_field : (f g : List ℕ) → pair_of f ≡ pair_of g → (pair_of f ≡ unknown → ⊥) → f ≡ g
unfolding pair_of
pair_one_field f g h k = go (is_pair f) refl (is_pair g) refl h k
  where
    go : (a : Bool) → is_pair f ≡ a → (b : Bool) → is_pair g ≡ b → cond a (read_decimal 0 f) unknown ≡ cond b (read_decimal 0 g) unknown
        → (cond a (read_decimal 0 f) unknown ≡ unknown → ⊥) → f ≡ g
    go true p true q l m = one_field f g p q l
    go true p false q l m = absurd (m l)
    go false p b q l m = absurd (m refl)

-- the field is unknown exactly when it is not 1 to 5 digits without a leading zero
pub pair_unknown : (f : List ℕ) → (pair_of f ≡ unknown) ↔ (is_pair f ≡ false)
unfolding pair_of
pair_unknown f = (to (is_pair f) refl, λ h. ap (λ (b : Bool). cond b (read_decimal 0 f) unknown) h)
  where
    to : (b : Bool) → is_pair f ≡ b → cond b (read_decimal 0 f) unknown ≡ unknown → b ≡ false
    to false p h = refl
    to true p h = absurd (omega (arith, h, few_digits f p))

-- the limit of each column's codes
abbrev pub limits : List ℕ
limits = pair_limit ∷ 256 ∷ 2 ∷ 2 ∷ 2 ∷ 4 ∷ 22 ∷ 4 ∷ 4 ∷ 8 ∷ 8 ∷ 5 ∷ []

-- every code of the column is unknown or below the limit
abbrev pub Limited : (List ℕ → ℕ) → ℕ → Type 0
Limited column limit = (f : List ℕ) → (column f ≡ unknown) ⊎ (column f < limit)

-- each column has its limit
pub data AllLimited : List (List ℕ → ℕ) → List ℕ → Type 0 where
  none_more : AllLimited [] []
  one_more : {column : List ℕ → ℕ} {others : List (List ℕ → ℕ)} {limit : ℕ} {more : List ℕ} → Limited column limit → AllLimited others more
      → AllLimited (column ∷ others) (limit ∷ more)

pub columns_limited : AllLimited columns limits
unfolding columns request_names flag_names tag_names responses response_names tag_op_names resp_err_names forward_names final_names fwd_err_names
columns_limited =
    one_more pair_below
    (one_more (codes_below request_names 256 refl)
    (one_more (codes_below flag_names 2 refl)
    (one_more (codes_below flag_names 2 refl)
    (one_more (codes_below flag_names 2 refl)
    (one_more (codes_below tag_names 4 refl)
    (one_more (codes_below response_names 22 refl)
    (one_more (codes_below tag_op_names 4 refl)
    (one_more (codes_below resp_err_names 4 refl)
    (one_more (codes_below forward_names 8 refl)
    (one_more (codes_below final_names 8 refl)
    (one_more (codes_below fwd_err_names 5 refl)
    none_more)))))))))))

-- examples of pair fields, good ones and bad ones, at each limit
pub some_pairs :
    map pair_of (bytes "0" ∷ bytes "9" ∷ bytes "10" ∷ bytes "9999" ∷ bytes "10000" ∷ bytes "65535" ∷ bytes "99999" ∷ bytes "100000" ∷ bytes "" ∷ bytes "00" ∷ bytes "01" ∷ bytes "065535" ∷ bytes "1:" ∷ bytes "/1" ∷ bytes "-1" ∷ bytes " 1" ∷ [])
    ≡ 0 ∷ 9 ∷ 10 ∷ 9999 ∷ 10000 ∷ 65535 ∷ 99999 ∷ unknown ∷ unknown ∷ unknown ∷ unknown ∷ unknown ∷ unknown ∷ unknown ∷ unknown ∷ unknown ∷ []
unfolding pair_of is_pair read_decimal
some_pairs = refl
