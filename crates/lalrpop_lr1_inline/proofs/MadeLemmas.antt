-- What records make, one after another: for the functions that put it behind what is there.
use Rattle.std.proofs.Common.{◌≡◌, ◌+◌, ℕ, false, if◌then◌else◌, refl, List, [], ◌∷◌, ◌++◌, ap, sym, ◌∙◌, subst, append_assoc}
use Rattle.std.proofs.Common.{length, length-append, map}
use Rattle.std.specs.List.{list_any}
use Rattle.std.proofs.lemmas.Bool.{or_parts}
use Rattle.std.proofs.lemmas.List.{length-map}
use Rattle.lalrpop_grammar_repr.specs.declared.action.ActionFnDefn.{ActionFnDefn}
use Rattle.lalrpop_grammar_repr.specs.declared.action.InlinedSymbol.{InlinedSymbol}
use Rattle.lalrpop_grammar_repr.specs.declared.production.Production.{Production}
use Rattle.lalrpop_lr1_inline.specs.InliningSteps.{AddsDefinitions, AreInlineDefinitions, IsInlineDefinition, production_of_record}
use Rattle.lalrpop_lr1_inline.specs.InliningSteps.{productions_after, productions_in_place, productions_of_records, records_after}
use Rattle.lalrpop_lr1_inline.specs.InliningSteps.{is_place, records_in_place, records_of}
use Rattle.lalrpop_grammar_symbols.specs.Symbols.{Text}
use Rattle.lalrpop_grammar_language.proofs.StepOnceLemmas.{append-none}

abbrev Record : Type 0
Record = List InlinedSymbol

abbrev pub with_production : Production → List Record → List (Production × Record)
with_production p rs = map (λ r. (p, r)) rs

-- one production further on
pub productions_on : (p : Production) (left rest : List Record) (r : Record) (k j : ℕ) (old new whole : List Production) →
    left ≡ r ∷ rest → new ≡ old ++ production_of_record p r k ∷ [] → j ≡ k + 1 →
    old ++ productions_of_records p left k ≡ whole →
    new ++ productions_of_records p rest j ≡ whole
productions_on p left rest r k j old new whole e f same h =
    ap (λ l. l ++ productions_of_records p rest j) f
    ∙ append_assoc old (production_of_record p r k ∷ []) (productions_of_records p rest j)
    ∙ ap (λ i. old ++ production_of_record p r k ∷ productions_of_records p rest i) same
    ∙ ap (λ l. old ++ productions_of_records p l k) (sym e) ∙ h

-- one action further on
pub definitions_on : (actions : List ActionFnDefn) (p : Production) (left rest : List Record) (r : Record) (d : ActionFnDefn)
    (all : List (Production × Record)) (first old new : List ActionFnDefn) → left ≡ r ∷ rest → new ≡ old ++ d ∷ [] →
    IsInlineDefinition actions p r d →
    ((ds : List ActionFnDefn) → AreInlineDefinitions actions (with_production p left) ds →
    AddsDefinitions actions all first (old ++ ds)) →
    (ds : List ActionFnDefn) → AreInlineDefinitions actions (with_production p rest) ds → AddsDefinitions actions all first (new ++ ds)
definitions_on actions p left rest r d all first old new e f is h ds are =
    subst (λ (l : List ActionFnDefn). AddsDefinitions actions all first l)
    (sym (append_assoc old (d ∷ []) ds) ∙ ap (λ l. l ++ ds) (sym f))
    (h (d ∷ ds) (subst (λ (l : List Record). AreInlineDefinitions actions (with_production p l) (d ∷ ds)) (sym e) (is, are)))

-- the last of them
pub definitions_end : (actions : List ActionFnDefn) (p : Production) (left : List Record) (all : List (Production × Record))
    (first old : List ActionFnDefn) → left ≡ [] →
    ((ds : List ActionFnDefn) → AreInlineDefinitions actions (with_production p left) ds →
    AddsDefinitions actions all first (old ++ ds)) → AddsDefinitions actions all first old
definitions_end actions p left all first old e h =
    subst (λ (l : List ActionFnDefn). AddsDefinitions actions all first l) (append-none old)
    (h [] (subst (λ (l : List Record). AreInlineDefinitions actions (with_production p l) []) (sym e) tt))

are-append : (actions : List ActionFnDefn) (ms ns : List (Production × Record)) (ds es : List ActionFnDefn) →
    AreInlineDefinitions actions ms ds → AreInlineDefinitions actions ns es → AreInlineDefinitions actions (ms ++ ns) (ds ++ es)
are-append actions [] ns [] es a b = b
are-append actions [] ns (d ∷ ds) es a b = absurd a
are-append actions (m ∷ ms) ns [] es a b = absurd a
are-append actions (m ∷ ms) ns (d ∷ ds) es a b = (a.0, are-append actions ms ns ds es a.1 b)

-- actions behind actions
pub adds_on : (actions : List ActionFnDefn) (ms ns : List (Production × Record)) (before mid after : List ActionFnDefn) →
    AddsDefinitions actions ms before mid → AddsDefinitions actions ns mid after → AddsDefinitions actions (ms ++ ns) before after
adds_on actions ms ns before mid after a b = record {
  made = a.made ++ b.made;
  are_definitions = are-append actions ms ns a.made b.made a.are_definitions b.are_definitions;
  after_is = b.after_is ∙ ap (λ l. l ++ b.made) a.after_is ∙ append_assoc before a.made b.made;
}

-- nothing is added where nothing is made
pub adds_none : (actions : List ActionFnDefn) (before : List ActionFnDefn) → AddsDefinitions actions [] before before
adds_none actions before = record { made = []; are_definitions = tt; after_is = sym (append-none before) }

-- one production of a list further on
pub replaced_on : (n : Text) (sources left rest : List Production) (p : Production) (k j : ℕ) (old new whole : List Production) →
    left ≡ p ∷ rest → new ≡ old ++ productions_in_place n sources p k → j ≡ k + length (records_in_place n sources p) →
    old ++ productions_after n sources left k ≡ whole → new ++ productions_after n sources rest j ≡ whole
replaced_on n sources left rest p k j old new whole e f same h =
    ap (λ l. l ++ productions_after n sources rest j) f
    ∙ append_assoc old (productions_in_place n sources p k) (productions_after n sources rest j)
    ∙ ap (λ i. old ++ (productions_in_place n sources p k ++ productions_after n sources rest i)) same
    ∙ ap (λ l. old ++ productions_after n sources l k) (sym e) ∙ h

-- and its actions
pub added_on : (actions : List ActionFnDefn) (n : Text) (sources left rest : List Production) (p : Production)
    (all : List (Production × Record)) (first old new : List ActionFnDefn) → left ≡ p ∷ rest →
    AddsDefinitions actions (with_production p (records_in_place n sources p)) old new →
    ((after : List ActionFnDefn) → AddsDefinitions actions (records_after n sources left) old after →
    AddsDefinitions actions all first after) →
    (after : List ActionFnDefn) → AddsDefinitions actions (records_after n sources rest) new after →
    AddsDefinitions actions all first after
added_on actions n sources left rest p all first old new e one h after more =
    h after (subst (λ (l : List Production). AddsDefinitions actions (records_after n sources l) old after) (sym e)
    (adds_on actions (with_production p (records_in_place n sources p)) (records_after n sources rest) old new after one more))

-- how many are to be made
pub count_on : (n : Text) (sources left rest : List Production) (p : Production) → left ≡ p ∷ rest →
    length (records_after n sources left) ≡ length (records_in_place n sources p) + length (records_after n sources rest)
count_on n sources left rest p e =
    ap (λ l. length (records_after n sources l)) e
    ∙ length-append (with_production p (records_in_place n sources p)) (records_after n sources rest)
    ∙ ap (λ k. k + length (records_after n sources rest)) (length-map (records_in_place n sources p) (λ (r : Record). (p, r)))

-- productions that don't name it stay, and no record is made of them
pub unnamed_stay : (n : Text) (ps qs : List Production) (k : ℕ) → list_any (λ p. list_any (is_place n) p.symbols) qs ≡ false →
    productions_after n ps qs k ≡ qs
unnamed_stay n ps [] k e = refl
unnamed_stay n ps (p ∷ qs) k e =
    let none = or_parts (list_any (is_place n) p.symbols) (list_any (λ (q : Production). list_any (is_place n) q.symbols) qs) e in
    ap (λ b. (if b then productions_of_records p (records_of n ps p.symbols) k else p ∷ [])
    ++ productions_after n ps qs (k + length (records_in_place n ps p))) none.0
    ∙ ap (λ l. p ∷ l) (unnamed_stay n ps qs (k + length (records_in_place n ps p)) none.1)

pub unnamed_none : (n : Text) (ps qs : List Production) → list_any (λ p. list_any (is_place n) p.symbols) qs ≡ false →
    records_after n ps qs ≡ []
unnamed_none n ps [] e = refl
unnamed_none n ps (p ∷ qs) e =
    let none = or_parts (list_any (is_place n) p.symbols) (list_any (λ (q : Production). list_any (is_place n) q.symbols) qs) e in
    ap (λ b. with_production p (if b then records_of n ps p.symbols else []) ++ records_after n ps qs) none.0
    ∙ unnamed_none n ps qs none.1
