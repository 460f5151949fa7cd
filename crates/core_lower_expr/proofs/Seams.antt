-- Words behind a front.
use Rattle.std.proofs.Common.{◌≡◌, ℕ, ◌+◌, List, ◌++◌, length, take, drop, refl, sym, ap, ap₂, ◌∙◌, take_at, drop_at}
use Rattle.std.specs.Prelude.{slice_index}
use Rattle.std.proofs.Math.Seq.{drop-append-add}
use Rattle.std.proofs.lemmas.List.{get_or-append-add}
use Rattle.dc_code.specs.Blocks.{put}

pub read_more : (front more : List ℕ) (i j : ℕ) → i ≡ length front + j → slice_index (front ++ more) i ≡ slice_index more j
read_more front more i j e = ap (slice_index (front ++ more)) e ∙ get_or-append-add front more j 0

pub take_more : (front ws more : List ℕ) (i n : ℕ) → i ≡ length front → n ≡ length ws → take n (drop i (front ++ (ws ++ more))) ≡ ws
take_more front ws more i n e f = ap (take n) (drop_at front (ws ++ more) i (sym e)) ∙ take_at ws more n (sym f)

pub put_more : (front more ws : List ℕ) (i : ℕ) → i ≡ length front → put (front ++ more) i ws ≡ front ++ (ws ++ drop (length ws) more)
put_more front more ws i e =
    ap (λ i. put (front ++ more) i ws) e
    ∙ ap₂ (λ a b. a ++ (ws ++ b)) (take_at front more (length front) refl) (drop-append-add front more (length ws))

pub put_middle : (front mid more ws : List ℕ) (i : ℕ) → i ≡ length front → length ws ≡ length mid → put (front ++ (mid ++ more)) i ws ≡ front ++ (ws ++ more)
put_middle front mid more ws i e f = put_more front (mid ++ more) ws i e ∙ ap (λ l. front ++ (ws ++ l)) (drop_at mid more (length ws) (sym f))
