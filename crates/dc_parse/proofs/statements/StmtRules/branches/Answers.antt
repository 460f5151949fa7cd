use Rattle.dc_grammar.specs.Statements.{begins_if}
use Rattle.dc_grammar.specs.StmtReaders as spec
use Rattle.dc_parse.proofs.statements.StmtRules.branches.Goals as goal

pub returns : goal.returns
returns g c =
    let inner = spec.stmt_to c.args.self.now.depth in
    c.chain.ensures (spec.if_branch inner) begins_if inner (record { reads = λ at r e. e }) (record { tells = λ at b e. e }) (record { reads = λ at r e. e })
