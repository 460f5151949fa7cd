use Rattle.std.proofs.Common.{◌≡◌, ◌++◌, ◌∷◌, [], take, map}
use Rattle.dc_key.specs.KeyTexts.{behind, arg_text}
use Rattle.dc_key.proofs.key.put_args.Given as goal

abbrev pub invariant-loop-arg : goal.invariant-loop-arg
invariant-loop-arg l = l.out ≡ l.initial.out ++ behind (44 ∷ 32 ∷ []) (map arg_text (take l.arg-index l.rest))
