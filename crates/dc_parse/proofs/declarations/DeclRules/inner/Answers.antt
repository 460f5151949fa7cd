use Rattle.dc_parse.proofs.declarations.DeclRules.inner.Goals as goal

pub inner-requires : goal.inner-requires
inner-requires g c = c.requires.callable c.args.at
