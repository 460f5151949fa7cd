-- The order of questions.
use Rattle.std.proofs.Common.{refl}
use Rattle.dc_question.specs.Ordered.{QuestionOrder}

pub question_order : QuestionOrder
question_order = record {
  by_place_and_asked = λ p q. refl;
  symbol_first = refl;
  layout_next = refl;
  signature_next = refl;
  body_next = refl;
  settle_last = refl;
}
