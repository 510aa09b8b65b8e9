-- `each_event::answer_of` meets its contract: the sets and the duties of an accepted event stand side by side.
use mathlib.Core.Path.{◌≡◌, sym, ◌∙◌, ap, ap₂}
use mathlib.Core.List.{List, ◌∷◌, ◌++◌}
use Prim.Native.Nat.{ℕ}
use lib.ListN.{length, take, drop}
use Rattle.std.specs.Prelude.{Result}
use Rattle.std.proofs.lemmas.List.{append-nil, take_at, drop_at}
use Rattle.kinds.specs.declared.Refusal.{Refusal}
use Rattle.event.specs.declared.Judgment.{Judgment}
use Rattle.event.specs.Alone.{in_numbers, seven_zeros}
use Rattle.each_event.proofs.answer_of.Goals as goal

-- what the two writes leave
laid : (sets duties : List ℕ) → length sets ≡ 7
    → 0 ∷ 1 ∷ (take 7 (sets ++ seven_zeros) ++ (duties ++ drop 7 (drop 7 (sets ++ seven_zeros)))) ≡ 0 ∷ 1 ∷ (sets ++ duties)
laid sets duties h =
    ap₂ (λ (a b : List ℕ). 0 ∷ 1 ∷ (a ++ (duties ++ drop 7 b))) (take_at sets seven_zeros 7 h) (drop_at sets seven_zeros 7 h)
    ∙ ap (λ (a : List ℕ). 0 ∷ 1 ∷ (sets ++ a)) (append-nil duties)

pub returns-in-Ok : goal.returns-in-Ok
returns-in-Ok c =
    laid c.copy_from_slice.new.self c.copy_from_slice-in-Ok.new.self c.copy_from_slice.ensures.len
    ∙ ap₂ (λ (a b : List ℕ). 0 ∷ 1 ∷ (a ++ b)) c.copy_from_slice.ensures.after c.copy_from_slice-in-Ok.ensures.after
    ∙ ap (λ (r : Result Judgment Refusal). (in_numbers r).number ∷ (in_numbers r).place ∷ ((in_numbers r).sets ++ (in_numbers r).duties)) (sym c.in-Ok.is)
