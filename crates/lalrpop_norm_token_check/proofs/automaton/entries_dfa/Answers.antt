use Rattle.std.proofs.Common.{◌≡◌, ◌<◌, ◌∙◌, sym, ap, subst, List, length, map, arith}
use Rattle.lalrpop_grammar.specs.Views.{intern_entry_view}
use Rattle.lalrpop_lexer_pattern.specs.declared.tree.Hir.{Hir}
use Rattle.lalrpop_lexer_pattern.specs.Meaning.{meaning}
use Rattle.lalrpop_lexer.specs.declared.error.DfaConstructionError.{DfaConstructionError}
use Rattle.lalrpop_lexer.specs.declared.error.DfaConstructionError.TheVariants as error
use Rattle.lalrpop_lexer.specs.Build as build
use Rattle.lalrpop_lexer.specs.Outcome.{numbers}
use Rattle.lalrpop_norm_token_check.specs.Patterns.{AreEntryPatterns, entry_precedences}
use Rattle.lalrpop_norm_token_check.proofs.AutomatonLemmas.{IsRefusal, dfa_decides, first_within, never_refused, no_tie}
use Rattle.lalrpop_norm_token_check.proofs.AutomatonLemmas.{none_refused, same_sizes}
use Rattle.lalrpop_norm_token_check.proofs.AutomatonLemmas.{second_within, tie_moved, tie_told}
use Rattle.lalrpop_norm_token_check.proofs.automaton.entries_dfa.Goals as goal

pub build_dfa-requires : goal.build_dfa-requires
build_dfa-requires c =
    same_sizes (map intern_entry_view c.args.entries.now) c.deref.result.now c.deref-2.result.now
    (subst (λ (l : List Hir). AreEntryPatterns (map intern_entry_view c.args.entries.now) (map meaning l)) (sym c.deref.ensures.value)
    c.in_ok-patterns.ensures.read)
    (ap numbers c.deref-2.ensures.value ∙ c.in_ok-precedences.ensures)

pub returns-in-Ok-clause-decides : goal.returns-in-Ok-clause-decides
returns-in-Ok-clause-decides c =
    dfa_decides (map intern_entry_view c.args.entries.now) c.deref.result.now c.deref-2.result.now _
    (subst (λ (l : List Hir). AreEntryPatterns (map intern_entry_view c.args.entries.now) (map meaning l)) (sym c.deref.ensures.value)
    c.in_ok-patterns.ensures.read)
    (ap numbers c.deref-2.ensures.value ∙ c.in_ok-precedences.ensures) c.in-Ok.ensures.decides

pub returns-in-Ok-clause-accepted : goal.returns-in-Ok-clause-accepted
returns-in-Ok-clause-accepted c =
    none_refused (map intern_entry_view c.args.entries.now) (map meaning c.in_ok-patterns.patterns.items) c.in_ok-patterns.ensures.read

pub returns-in-Ok-clause-unambiguous : goal.returns-in-Ok-clause-unambiguous
returns-in-Ok-clause-unambiguous c =
    no_tie (map intern_entry_view c.args.entries.now) c.deref.result.now c.deref-2.result.now
    (subst (λ (l : List Hir). AreEntryPatterns (map intern_entry_view c.args.entries.now) (map meaning l)) (sym c.deref.ensures.value)
    c.in_ok-patterns.ensures.read)
    (ap numbers c.deref-2.ensures.value ∙ c.in_ok-precedences.ensures) c.in-Ok.ensures.unambiguous

pub tie-requires-clause-one_within : goal.tie-requires-clause-one_within
tie-requires-clause-one_within c =
    let read : AreEntryPatterns (map intern_entry_view c.args.entries.now) (map meaning c.deref.result.now) =
    subst (λ (l : List Hir). AreEntryPatterns (map intern_entry_view c.args.entries.now) (map meaning l)) (sym c.deref.ensures.value)
    c.in_ok-patterns.ensures.read in
    let told : build.IsDfaFault (map meaning c.deref.result.now) (numbers c.deref-2.result.now)
    (error.Ambiguity c.in-Err-Ambiguity.match0 c.in-Err-Ambiguity.match1) =
    subst (λ (e : DfaConstructionError). build.IsDfaFault (map meaning c.deref.result.now) (numbers c.deref-2.result.now) e)
    c.in-Err-Ambiguity.field-0-is c.in-Err-Ambiguity.ensures.refused in
    let inside : c.in-Err-Ambiguity.match0.0 < length c.args.entries.now =
    first_within c.args.entries.now c.deref.result.now (numbers c.deref-2.result.now) told.1.0 _ c.in-Err-Ambiguity.match1.0 read
    told.1.1 in
    omega (arith, c.index.ensures)

pub tie-requires-clause-two_within : goal.tie-requires-clause-two_within
tie-requires-clause-two_within c =
    let read : AreEntryPatterns (map intern_entry_view c.args.entries.now) (map meaning c.deref.result.now) =
    subst (λ (l : List Hir). AreEntryPatterns (map intern_entry_view c.args.entries.now) (map meaning l)) (sym c.deref.ensures.value)
    c.in_ok-patterns.ensures.read in
    let told : build.IsDfaFault (map meaning c.deref.result.now) (numbers c.deref-2.result.now)
    (error.Ambiguity c.in-Err-Ambiguity.match0 c.in-Err-Ambiguity.match1) =
    subst (λ (e : DfaConstructionError). build.IsDfaFault (map meaning c.deref.result.now) (numbers c.deref-2.result.now) e)
    c.in-Err-Ambiguity.field-0-is c.in-Err-Ambiguity.ensures.refused in
    let inside : c.in-Err-Ambiguity.match1.0 < length c.args.entries.now =
    second_within c.args.entries.now c.deref.result.now (numbers c.deref-2.result.now) told.1.0 c.in-Err-Ambiguity.match0.0 _ read
    told.1.1 in
    omega (arith, c.index-in-Err-Ambiguity.ensures)

pub returns-in-Err-Ambiguity-clause-fault : goal.returns-in-Err-Ambiguity-clause-fault
returns-in-Err-Ambiguity-clause-fault c =
    let read : AreEntryPatterns (map intern_entry_view c.args.entries.now) (map meaning c.deref.result.now) =
    subst (λ (l : List Hir). AreEntryPatterns (map intern_entry_view c.args.entries.now) (map meaning l)) (sym c.deref.ensures.value)
    c.in_ok-patterns.ensures.read in
    let ranks : numbers c.deref-2.result.now ≡ entry_precedences (map intern_entry_view c.args.entries.now) =
    ap numbers c.deref-2.ensures.value ∙ c.in_ok-precedences.ensures in
    let told : build.IsDfaFault (map meaning c.deref.result.now) (numbers c.deref-2.result.now)
    (error.Ambiguity c.in-Err-Ambiguity.match0 c.in-Err-Ambiguity.match1) =
    subst (λ (e : DfaConstructionError). build.IsDfaFault (map meaning c.deref.result.now) (numbers c.deref-2.result.now) e)
    c.in-Err-Ambiguity.field-0-is c.in-Err-Ambiguity.ensures.refused in
    tie_told (map intern_entry_view c.args.entries.now) c.deref.result.now c.deref-2.result.now told.1.0 c.index.result
    c.index-in-Err-Ambiguity.result
    c.in_ok-fault-in-Err-Ambiguity.fault read ranks
    (tie_moved (map meaning c.deref.result.now) (numbers c.deref-2.result.now) told.1.0 c.in-Err-Ambiguity.match0.0
    c.in-Err-Ambiguity.match1.0
    c.index.result c.index-in-Err-Ambiguity.result c.index.ensures c.index-in-Err-Ambiguity.ensures told.1.1)
    c.in_ok-fault-in-Err-Ambiguity.ensures

pub unreachable-requires : goal.unreachable-requires
unreachable-requires c =
    let read : AreEntryPatterns (map intern_entry_view c.args.entries.now) (map meaning c.deref.result.now) =
    subst (λ (l : List Hir). AreEntryPatterns (map intern_entry_view c.args.entries.now) (map meaning l)) (sym c.deref.ensures.value)
    c.in_ok-patterns.ensures.read in
    never_refused (map intern_entry_view c.args.entries.now) (map meaning c.deref.result.now) (numbers c.deref-2.result.now)
    c.in-Err-NfaConstructionError.field-0 read c.in-Err-NfaConstructionError.ensures.refused
    (subst IsRefusal (sym c.in-Err-NfaConstructionError.field-0-is) tt)
