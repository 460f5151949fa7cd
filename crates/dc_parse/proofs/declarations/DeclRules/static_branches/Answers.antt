use Rattle.dc_grammar.specs.Statements.{begins_conditional}
use Rattle.dc_grammar.specs.DeclReaders as spec
use Rattle.dc_parse.proofs.declarations.DeclRules.static_branches.Goals as goal

pub returns : goal.returns
returns g c =
    let inner = spec.decl_to c.args.self.now.depth in
    c.chain.ensures (spec.static_branch inner) begins_conditional (spec.decl_body inner) (record { reads = λ at r e. e }) (record { tells = λ at b e. e }) (record { reads = λ at r e. e })
