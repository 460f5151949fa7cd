use Rattle.std.proofs.Common.{◌∙◌, ◌++◌, ◌-◌, sym, ap, arith}
use Rattle.std.proofs.lemmas.Result.{on_ok_weaker}
use Rattle.dc_shown.specs.Shown.{shown, text}
use Rattle.dc_shown.proofs.Showing.{shown_at_0, shown_plain, instance_said}
use Rattle.dc_shown.proofs.shown.+put_name.Goals as goal

pub put_name-returns-then-depth-eq0 : goal.put_name-returns-then-depth-eq0
put_name-returns-then-depth-eq0 g t c =
    let told = g.N.Naming.told c.args.names.now in
    let at = c.args.at.now in
    c.in_ok-append.ensures.ok ∙ ap (λ v. c.args.out.now ++ v) (c.name.ensures ∙ sym (shown_at_0 told at) ∙ ap (λ n. shown told n at) (sym c.if-depth-eq0.true))

pub put_name-returns-then-not-is_instance : goal.put_name-returns-then-not-is_instance
put_name-returns-then-not-is_instance g t c =
    let told = g.N.Naming.told c.args.names.now in
    let at = c.args.at.now in
    c.in_ok-append.ensures.ok ∙ ap (λ v. c.args.out.now ++ v) (c.name.ensures ∙ sym (shown_plain told c.args.depth at (sym c.is_instance.ensures ∙ c.if-not-is_instance.true)))

pub put_name-returns : goal.put_name-returns
put_name-returns g t c =
    let told = g.N.Naming.told c.args.names.now in
    let at = c.args.at.now in
    let n = c.args.depth in
    on_ok_weaker c.append-3.result (λ ended.
    instance_said told n at c.args.out.now c.append.new.self c.append-2.new.self c.put_pieces.new.out c.append-3.new.self (omega arith) (sym c.is_instance.ensures ∙ c.if-not-is_instance.false)
    (c.in_ok-append.ensures.ok ∙ ap (λ v. c.args.out.now ++ v) c.name.ensures) c.in_ok-append-2.ensures.ok
    (c.in_ok-put_pieces.ensures ∙ ap (λ all. c.append-2.new.self ++ text (shown told (n - 1)) all) (c.as_slice.ensures ∙ c.in_ok-pieces.ensures)) ended)
    c.append-3.ensures.ok
