use Rattle.std.proofs.Common.{ℕ, ◌<◌, sym, ◌∙◌}
use Rattle.std.proofs.lemmas.List.{nil_from_length}
use Rattle.std.proofs.lemmas.List.Elements.{All-nil, All-same}
use Rattle.lalrpop_lexer_pattern.proofs.PartnerLemmas.{IsWalked, walk_starts, walk_adds, walk_skips, all_behind, walk_ends}
use Rattle.lalrpop_lexer_pattern.proofs.partners.push_partners.Goals as goal
use Rattle.lalrpop_lexer_pattern.proofs.partners.push_partners.Goals.{in-Some+then-range-from, in_default}

pub loop-from-init : goal.loop-from-init
loop-from-init c =
    walk_starts c.args.range c.args.pairs.now c.pairs_from-rest.result.now c.args.ranges.now.items c.requires.rising c.requires.ordered
    c.pairs_from-rest.ensures

pub loop-from-preserved-in_ok-push : goal.loop-from-preserved-in_ok-push
loop-from-preserved-in_ok-push c =
    walk_adds c.args.range c.args.pairs.now c.loop-from.rest.now c.in-Some.more.now c.args.ranges.now.items c.loop-from.ranges.items
    c.push.new.self.items c.in-Some.field-0-0.now.0 c.in-Some.field-0-0.now.1 c.in-Some.ensures.cases.0 c.loop-from.invariant
    c.if-range-from.false (sym c.holds.ensures ∙ c.if-not-holds.true) c.in_ok-push.ensures.items

pub loop-from-preserved : goal.loop-from-preserved
loop-from-preserved c =
    walk_skips c.args.range c.args.pairs.now c.loop-from.rest.now c.in-Some.more.now c.args.ranges.now.items c.loop-from.ranges.items
    c.loop-from.ranges.items c.in-Some.field-0-0.now.0 c.in-Some.field-0-0.now.1 c.in-Some.ensures.cases.0 c.loop-from.invariant
    c.if-range-from.false (sym c.holds.ensures ∙ c.if-not-holds.false)

walked : (c : goal.Joined-split_first)
    → IsWalked c.args.range c.args.pairs.now c.loop-from.rest.now c.args.ranges.now.items c.loop-from.ranges.items
walked c =
    walk_ends c.args.range c.args.pairs.now c.loop-from.rest.now c.args.ranges.now.items c.loop-from.ranges.items c.loop-from.invariant
    (elim c.match-split_first.branch [
      | in-Some+then-range-from w ↦
          all_behind c.args.range c.args.pairs.now c.loop-from.rest.now w.in-Some.more.now c.args.ranges.now.items
          c.loop-from.ranges.items c.loop-from.ranges.items w.in-Some.field-0-0.now.0 w.in-Some.field-0-0.now.1
          w.in-Some.ensures.cases.0 c.loop-from.invariant w.if-range-from.true
      | in_default w ↦
          All-same (λ (p : ℕ × ℕ). c.args.range.end < p.0) _ _ (nil_from_length c.loop-from.rest.now w.in_default.ensures.cases)
          (All-nil (λ (p : ℕ × ℕ). c.args.range.end < p.0))
    ])

pub returns-clause-added : goal.returns-clause-added
returns-clause-added c = (walked c).added

pub returns-clause-rest : goal.returns-clause-rest
returns-clause-rest c = (walked c).others
