use Rattle.std.proofs.Common.{Some, rules, tests}
use Rattle.std.proofs.lemmas.Iterator.{YieldsList-from_map, items_from_collect}
use Rattle.std.proofs.lemmas.Iterator.Adapters.{YieldsList-from_once, YieldsList-from_rev_slice}
use Rattle.std.proofs.lemmas.Iterator.Consumers.{YieldsList-at, YieldsList-from_chain, YieldsList-from_filter}
use Rattle.std.proofs.lemmas.Result.{IfOk-weaker}
use Rattle.box_rules.proofs.chest.Chest.letter_keys.Goals as goal
use Rattle.box_rules.specs.Keys.{is_house, is_stray}

pub returns : goal.returns
returns g c =
    let s = c.args.self.now in
    IfOk-weaker c.collect.result _ _ (λ v e bs. e)
    (items_from_collect _ c.collect.ensures.ran
    (YieldsList-from_chain
    (YieldsList-at c.chain-2.ensures.first
    (YieldsList-from_chain
    (YieldsList-at c.chain.ensures.first (YieldsList-from_once (Some s.key) c.once.ensures.item))
    (YieldsList-at c.chain.ensures.second
    (YieldsList-from_map _ (λ h. h.pass.key)
    (YieldsList-at c.map-house.ensures.source
    (YieldsList-from_filter _ is_house (YieldsList-at c.filter.ensures.source (YieldsList-from_rev_slice s.tickets (cc))) c.filter.ensures.closure (λ x r q k. search (rules, tests))))
    c.map-house.ensures.closure (λ x r q k. search (rules, tests))))
    c.chain.ensures.first_done c.chain.ensures.second_done))
    (YieldsList-at c.chain-2.ensures.second
    (YieldsList-from_map _ (λ p. p.key)
    (YieldsList-at c.map-stray.ensures.source
    (YieldsList-from_filter _ (is_stray s.tickets) (YieldsList-at c.filter-2.ensures.source (YieldsList-from_rev_slice s.askings (cc))) c.filter-2.ensures.closure (λ x r q k. search (rules, tests))))
    c.map-stray.ensures.closure (λ x r q k. search (rules, tests))))
    c.chain-2.ensures.first_done c.chain-2.ensures.second_done))
