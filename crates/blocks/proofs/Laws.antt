-- A read into the rest of a buffer: what has come so far grows by what this read gave.
-- Assumes nothing.
use Rattle.std.proofs.Common.{◌≡◌, ℕ, ◌+◌, ◌≤◌, List, ◌++◌, length, take, sym, ap, ap₂, ◌∙◌, drop_at, length-take-le, le_refl}
use Rattle.std.proofs.lemmas.Slice.{take-put_mid_below}
use borrow.Rule.Slice.PartMut.{put_mid, post_of}
use lib.Seq.{take-add, take-append-le}

pub come_so_far : (done room came : ℕ) (xs ys : List ℕ) → done ≤ length xs → came ≤ length ys
    → take done xs ++ take came ys ≡ take (done + came) (put_mid done room xs ys)
come_so_far done room came xs ys within fits =
    let all = put_mid done room xs ys in
    let after = post_of done room xs in
    ap₂ ◌++◌ (sym (take-put_mid_below _ _ _ _ _ (le_refl _) within))
    (sym (ap (take came) (drop_at (take done xs) (ys ++ after) done (length-take-le done xs within)) ∙ take-append-le came ys after fits))
    ∙ sym (take-add done came all)
