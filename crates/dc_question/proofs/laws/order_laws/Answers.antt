use Rattle.dc_question.proofs.Ordering.{question_order}
use Rattle.dc_question.proofs.laws.order_laws.Goals as goal

pub returns : goal.returns
returns c = question_order
