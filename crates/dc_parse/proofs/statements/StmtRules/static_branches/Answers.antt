use Rattle.dc_grammar.specs.Statements.{begins_conditional}
use Rattle.dc_grammar.specs.StmtReaders as spec
use Rattle.dc_parse.proofs.statements.StmtRules.static_branches.Goals as goal

pub returns : goal.returns
returns g c =
    let inner = spec.stmt_to c.args.self.now.depth in
    c.chain.ensures (spec.static_branch inner) begins_conditional (spec.stmt_body inner) (record { reads = λ at r e. e }) (record { tells = λ at b e. e }) (record { reads = λ at r e. e })
