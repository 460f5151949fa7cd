use Rattle.std.proofs.Common.{◌∙◌, ◌++◌, sym, ap, map}
use Rattle.std.proofs.lemmas.Result.{IfOk-equal, on_ok_weaker}
use Rattle.dc_types.specs.declared.ty.Ty.TheViews.{out-Ty}
use Rattle.dc_shown.specs.Shown.{bare, part, by_fields, joined, list_at, of_tree}
use Rattle.dc_shown.proofs.Showing.{of_list, string_is, array_string, parts_of, list-Str, list-Struct, behind_more, three_said, four_said}
use Rattle.dc_shown.proofs.shown.+say_value.Goals as goal

pub say_value-returns-in-List : goal.say_value-returns-in-List
say_value-returns-in-List g t c =
    let told = g.N.Naming.told c.args.names.now in
    let whole = c.args.ty.now in
    IfOk-equal c.say_list.result _ _ _ c.say_list.ensures
    (ap (λ v. c.args.out.now ++ v)
    (ap (λ b. list_at told (out-Ty b) (map (part told) c.as_slice.result.now)) c.bare-in-List.ensures
    ∙ ap (λ trees. list_at told (out-Ty (bare whole)) (map (part told) trees)) c.as_slice.ensures
    ∙ sym (ap (of_tree told whole) c.in-List.is ∙ of_list told whole c.in-List.trees)))

pub say_list-returns-in-Str : goal.say_list-returns-in-Str
say_list-returns-in-Str g t c =
    let told = g.N.Naming.told c.args.names.now in
    let parts = map (part told) c.args.trees.now in
    IfOk-equal c.say_string.result _ _ _ c.say_string.ensures
    (ap (λ v. c.args.out.now ++ v) (sym (ap (λ x. list_at told (out-Ty x) parts) c.in-Str.is ∙ list-Str told parts ∙ string_is told c.args.trees.now)))

pub say_list-returns-in_ok-say_fields-in-Struct : goal.say_list-returns-in_ok-say_fields-in-Struct
say_list-returns-in_ok-say_fields-in-Struct g t c =
    let told = g.N.Naming.told c.args.names.now in
    let parts = map (part told) c.args.trees.now in
    let old = c.args.out.now in
    on_ok_weaker c.say-in-Struct.result (λ said.
    four_said old _ _ _ _ c.say_name.new.out c.say.new.out c.say_fields.new.out c.say-in-Struct.new.out
    c.in_ok-say_name-in-Struct.ensures c.in_ok-say-in-Struct.ensures (c.in_ok-say_fields-in-Struct.ensures ∙ ap (λ fields. c.say.new.out ++ joined (by_fields fields parts)) c.fields.ensures) said
    ∙ ap (λ v. old ++ v) (sym (ap (λ x. list_at told (out-Ty x) parts) c.in-Struct.is ∙ list-Struct told c.in-Struct.at parts)))
    c.say-in-Struct.ensures

pub say_array-returns-then-is_char : goal.say_array-returns-then-is_char
say_array-returns-then-is_char g t c =
    let told = g.N.Naming.told c.args.names.now in
    IfOk-equal c.say_string.result _ _ _ c.say_string.ensures
    (ap (λ v. c.args.out.now ++ v) (sym (array_string told c.args.of.now c.args.trees.now (sym c.is_char.ensures ∙ c.if-is_char.true))))

pub say_parts-returns : goal.say_parts-returns
say_parts-returns g t c =
    let told = g.N.Naming.told c.args.names.now in
    on_ok_weaker c.say-2.result (λ said.
    three_said c.args.out.now _ _ _ c.say.new.out c.say_joined.new.out c.say-2.new.out
    c.in_ok-say.ensures (c.in_ok-say_joined.ensures ∙ ap (λ v. c.say.new.out ++ joined v) (sym (parts_of told c.args.of.now c.args.trees.now))) said)
    c.say-2.ensures

pub say_joined-loop-tree-preserved : goal.say_joined-loop-tree-preserved
say_joined-loop-tree-preserved g t c =
    behind_more (of_tree (g.N.Naming.told c.args.names.now) c.args.of.now) _ c.loop-tree.tree-index c.tree-item.result _ c.loop-tree.out c.say.new.out c.say_value-in-loop-tree.new.out c.loop-tree-test.true c.tree-item.is c.loop-tree.invariant c.in_ok-say.ensures c.in_ok-say_value-2.ensures
