use Rattle.dpc.proofs.ways.compile.Goals as goal

pub returns-in-Ok-clause-runs : goal.returns-in-Ok-clause-runs
returns-in-Ok-clause-runs g c = λ some rose run is.
    c.compile_one.ensures.runs (g.L.Library.told c.args.lib.now) some c.in-Some.ensures c.in-Ok.ensures.content.text run is

pub returns-in-Ok-clause-refuses : goal.returns-in-Ok-clause-refuses
returns-in-Ok-clause-refuses g c = λ some rose line is other.
    c.compile_one.ensures.refuses (g.L.Library.told c.args.lib.now) some c.in-Some.ensures c.in-Ok.ensures.content.text line is other
