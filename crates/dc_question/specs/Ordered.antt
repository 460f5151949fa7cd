-- The order of questions: by their places, and at one place by what is asked.
use Rattle.std.proofs.Common.{◌≡◌}
use Rattle.std.specs.Ordering.{ordering_then}
use Rattle.std.specs.declared.cmp.Ordering.{Ordering}
use Rattle.std.specs.declared.cmp.Ordering.TheVariants.{Less}
use Rattle.dc_types.specs.Ordered.{by_place}
use Rattle.dc_question.specs.declared.question.Asked.{Asked}
use Rattle.dc_question.specs.declared.question.Asked.TheVariants as askeds
use Rattle.dc_question.specs.declared.question.Question.{Question}
use Rattle.dc_question.specs.contracts.question.AskedOrd.TheImpl as asked_ord
use Rattle.dc_question.specs.contracts.question.QuestionOrd.TheImpl as question_ord

abbrev pub by_asked : Asked → Asked → Ordering
by_asked = (asked_ord.ghosts).cmp

abbrev pub by_question : Question → Question → Ordering
by_question = (question_ord.ghosts).cmp

-- of two questions the one whose place is first, and at one place by what is asked, each variant before the next
pub record QuestionOrder : Type 0 where
  pub by_place_and_asked : (p q : Question) → by_question p q ≡ ordering_then (by_place p.place q.place) (by_asked p.asked q.asked)
  pub symbol_first : by_asked askeds.Symbol askeds.Layout ≡ Less
  pub layout_next : by_asked askeds.Layout askeds.Signature ≡ Less
  pub signature_next : by_asked askeds.Signature askeds.BodyOf ≡ Less
  pub body_next : by_asked askeds.BodyOf askeds.Eval ≡ Less
  pub settle_last : by_asked askeds.Eval askeds.Settle ≡ Less
