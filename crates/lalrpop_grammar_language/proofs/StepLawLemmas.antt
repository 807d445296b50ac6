-- The parts of the law on one step, as its statements have them.
use Rattle.std.proofs.Common.{◌≡◌, List, [], ◌++◌, refl, ap, sym, ◌∙◌, subst}
use Rattle.lalrpop_grammar_language.specs.Labels.{GrammarSymbols, BaseProductions, Label}
use Rattle.lalrpop_grammar_language.specs.Inlining.{Inlines, HaveOneSide}
use Rattle.lalrpop_grammar_language.specs.Steps.{RecordedSymbol, symbols_before, symbols_after, record_inlinings, IsRecord, fill_label}
use Rattle.lalrpop_grammar_language.specs.Steps.{label_with, OneMore, NeverNamesItself, IsByStep}
use Rattle.lalrpop_grammar_language.proofs.StepLemmas.{fills_label}
use Rattle.lalrpop_grammar_language.proofs.StepOriginLemmas.{label_comes_from}
use Rattle.lalrpop_grammar_language.proofs.StepOnceLemmas.{made_once, append-none}
use Rattle.lalrpop_grammar_language.proofs.SideLemmas.{one_side, one_record}

-- a label and its record, where it is known what filling the label gives behind any others
whole_record : {N C : Type 0} (label made : Label N C) (symbols : List (RecordedSymbol N C)) →
    fill_label label (symbols ++ []) ≡ (made, []) → fill_label label symbols ≡ (made, [])
whole_record label made symbols e = ap (fill_label label) (sym (append-none symbols)) ∙ e

-- what the step makes is a production, and the record is used up
pub step_makes : {N C : Type 0} (M : BaseProductions N C) (In : N → Type 0) (n : N) → NeverNamesItself M In n → (x : N)
    (label : Label N C) (symbols : List (RecordedSymbol N C)) → Inlines M In x label (symbols_before n symbols) →
    IsRecord M In n symbols →
    (fill_label label symbols ≡ (label_with label symbols, []))
    × Inlines M (OneMore In n) x (label_with label symbols) (symbols_after symbols)
step_makes {N = N} {C = C} M In n never x label symbols h a =
    let r = fills_label M In n never label x (symbols_before n symbols) symbols h a refl in
    let whole = whole_record label r.made symbols (r.made_is []) in
    let made_is : label_with label symbols ≡ r.made = ap (λ (z : Label N C × List (RecordedSymbol N C)). z.0) whole in
    (whole ∙ ap (λ l. (l, [])) (sym made_is), subst (λ l. Inlines M (OneMore In n) x l (symbols_after symbols)) (sym made_is) r.inlines)

-- the step makes each production
pub step_reaches : {N C : Type 0} (M : BaseProductions N C) (In : N → Type 0) (n : N) → (In n → ⊥) → NeverNamesItself M In n →
    (x : N) (label : Label N C) (side : GrammarSymbols N) → Inlines M (OneMore In n) x label side → IsByStep N C M In n x label side
step_reaches {N = N} {C = C} M In n fresh never x label side h =
    let r = label_comes_from M In n fresh never label x side h in
    record {
      old_label = r.old_label;
      symbols = r.symbols;
      produced = subst (λ s. Inlines M In x r.old_label s) (sym r.before_is) r.produced;
      is_record = r.is_record;
      label_is =
          sym (ap (λ (z : Label N C × List (RecordedSymbol N C)). z.0) (whole_record r.old_label label r.symbols (r.made_is [])));
      side_is = sym r.after_is;
    }

-- no label is made twice
pub step_once : {N C : Type 0} (M : BaseProductions N C) (In : N → Type 0) (n : N) → (In n → ⊥) → (x : N) (label : Label N C)
    (side other : GrammarSymbols N) (a : IsByStep N C M In n x label side) (b : IsByStep N C M In n x label other) →
    (a.old_label ≡ b.old_label) × (record_inlinings a.symbols ≡ record_inlinings b.symbols)
step_once M In n fresh x label side other a b =
    made_once M In n fresh x a.old_label b.old_label a.symbols b.symbols a.produced b.produced a.is_record b.is_record
    (sym a.label_is ∙ b.label_is)

-- a label tells its record where each choice has one right side
pub step_record : {N C : Type 0} (M : BaseProductions N C) (In : N → Type 0) (n : N) → (In n → ⊥) → HaveOneSide M → (x : N)
    (label : Label N C) (side other : GrammarSymbols N) (a : IsByStep N C M In n x label side) (b : IsByStep N C M In n x label other) →
    a.symbols ≡ b.symbols
step_record M In n fresh one x label side other a b =
    let s = step_once M In n fresh x label side other a b in
    let sides : symbols_before n a.symbols ≡ symbols_before n b.symbols =
    one_side M In one b.old_label x (symbols_before n a.symbols) (symbols_before n b.symbols)
    (subst (λ l. Inlines M In x l (symbols_before n a.symbols)) s.0 a.produced) b.produced in
    one_record M In one n a.symbols b.symbols a.is_record b.is_record sides s.1
