use Rattle.std.proofs.Common.{◌≡◌, true}
use Rattle.lalrpop_grammar_language.proofs.OrderLemmas.{never_names}
use Rattle.lalrpop_grammar_language.proofs.StepLawLemmas.{step_makes, step_reaches, step_once, step_record}
use Rattle.lalrpop_grammar_language.proofs.labels.steps_are_exact.Goals as goal

pub returns-clause-productions : goal.returns-clause-productions
returns-clause-productions g c =
    let i = g.P.Inlining in
    λ n never x label symbols h a. step_makes i.produces i.is_inlined n never x label symbols h a

pub returns-clause-all : goal.returns-clause-all
returns-clause-all g c =
    let i = g.P.Inlining in
    λ n fresh never x label side h. step_reaches i.produces i.is_inlined n fresh never x label side h

pub returns-clause-once : goal.returns-clause-once
returns-clause-once g c =
    let i = g.P.Inlining in
    λ n fresh x label side other a b. step_once i.produces i.is_inlined n fresh x label side other a b

pub returns-clause-one_record : goal.returns-clause-one_record
returns-clause-one_record g c =
    let i = g.P.Inlining in
    λ n fresh one x label side other a b. step_record i.produces i.is_inlined n fresh one x label side other a b

pub returns-clause-in_order : goal.returns-clause-in_order
returns-clause-in_order g c =
    let i = g.P.Inlining in
    λ marked n m first. never_names i.produces i.is_inlined (λ x. marked x ≡ true) n m first
