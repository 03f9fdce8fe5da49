-- `fields::end_of` meets its contract. Assumes nothing.
use Rattle.std.proofs.Common.{◌≡◌, ◌+◌, ◌==◌, ap, refl, ◌∙◌, rules, tests, position}
use Rattle.std.proofs.lemmas.Iterator.{YieldsList-from_slice}
use Rattle.std.proofs.lemmas.Iterator.Search.{position_from_yields_List}
use Rattle.fields.proofs.PiecesLaws.{rest-of, before-found}
use Rattle.fields.proofs.end_of.Goals as goal

pub returns : goal.returns
returns c =
    let rest = rest-of c.args.bytes.now c.args.from _ _ _ c.get.ensures.lookup c.unwrap_or-rest.ensures refl in
    let found : c.position.result ≡ position (λ b. b == c.args.at) c.unwrap_or-rest.result.now =
    position_from_yields_List (λ b. b == c.args.at) _ _ c.position.result c.position.ensures.ran (YieldsList-from_slice _ c.iter.ensures.rest) (λ x b q k. search (rules, tests)) in
    ap (λ n. c.args.from + n) (c.unwrap_or.ensures ∙ rw (found, rest) (before-found c.args.at _))
