use Rattle.std.proofs.Common.{◌≡◌, Bool, true, false, inl, inr, ◌⊎◌, refl, subst}
use Rattle.dc_token.specs.Balance.{Bytes}
use Rattle.dc_token.specs.Names.{IsName}
use Rattle.dc_top.proofs.Texts.{judged}
use Rattle.dc_top.proofs.Verdicts.{settled}
use Rattle.dc_top.proofs.laws.each_text_is_settled.Goals as goal

named_or_nameless : (name : Bytes) (test : Bool) → (test ≡ true → IsName name) × (IsName name → test ≡ true) → IsName name ⊎ (IsName name → ⊥)
named_or_nameless name true h = inl (h.0 refl)
named_or_nameless name false h = inr (λ is. absurd (let k : false ≡ true = h.1 is in cc))

pub returns : goal.returns
returns c =
    let named = named_or_nameless c.default_name.result.now c.is_name-named.result c.is_name-named.ensures in
    let j = judged c.args.file.now c.args.text.now (subst (λ (n : Bytes). IsName n ⊎ (IsName n → ⊥)) c.default_name.ensures named) c.first_unreadable-stop.ensures.divides in
    settled c.args.file.now c.args.text.now j.verdict j.is
