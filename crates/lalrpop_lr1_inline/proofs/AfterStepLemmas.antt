-- After a step names stand as before, and each production's action is one of those that there are then: for the next step.
use Rattle.std.proofs.Common.{◌≡◌, ◌+◌, ◌<◌, ◌≤◌, ℕ, List, [], ◌∷◌, ap, refl, arith, true, false, length}
use Rattle.std.specs.Prelude.{All, Bool, if◌then◌else◌}
use Rattle.std.specs.List.{list_any}
use Rattle.std.specs.Map.{keys_of}
use Rattle.std.proofs.lemmas.List.Elements.{All-append, All-cons, All-head, All-nil, All-tail}
use Rattle.lalrpop_grammar_symbols.specs.Symbols.{Text}
use Rattle.lalrpop_grammar_symbols.specs.declared.names.NonterminalString.{NonterminalString}
use Rattle.lalrpop_grammar_repr.specs.declared.action.InlinedSymbol.{InlinedSymbol}
use Rattle.lalrpop_grammar_repr.specs.declared.production.NonterminalData.{NonterminalData}
use Rattle.lalrpop_grammar_repr.specs.declared.production.Production.{Production}
use Rattle.lalrpop_lr1_inline.specs.InlinedNames.{NonterminalEntries}
use Rattle.lalrpop_lr1_inline.specs.InliningSteps.{all_records_after, entries_after, is_place, production_of_record, productions_after}
use Rattle.lalrpop_lr1_inline.specs.InliningSteps.{productions_in_place, productions_of_records, records_after, records_in_place}
use Rattle.lalrpop_lr1_inline.specs.InliningSteps.{records_of}
use Rattle.lalrpop_lr1_inline.proofs.MadeLemmas.{count_on}
use Rattle.lalrpop_lr1_inline.proofs.StepRuleLemmas.{all_count_on}

-- a step leaves the names of the nonterminals as they are, in their order
pub keys_after : (n : Text) (sources : List Production) (es : NonterminalEntries) (k : ℕ) →
    keys_of (entries_after n sources es k) ≡ keys_of es
keys_after n sources [] k = refl
keys_after n sources (e ∷ es) k =
    ap (λ l. e.0 ∷ l) (keys_after n sources es (k + length (records_after n sources e.1.productions)))

-- the action has a number below this one
abbrev IsBelow : ℕ → Production → Type 0
IsBelow m p = p.action.0 < m

records_below : (m : ℕ) (p : Production) (rs : List (List InlinedSymbol)) (k : ℕ) → k + length rs ≤ m →
    All (IsBelow m) (productions_of_records p rs k)
records_below m p [] k h = All-nil (IsBelow m)
records_below m p (r ∷ rs) k h =
    All-cons (IsBelow m) (production_of_record p r k) (productions_of_records p rs (k + 1)) (omega (arith, h))
    (records_below m p rs (k + 1) (omega (arith, h)))

place_below : (m : ℕ) (n : Text) (sources : List Production) (p : Production) (k : ℕ) → p.action.0 < m →
    k + length (records_in_place n sources p) ≤ m → All (IsBelow m) (productions_in_place n sources p k)
place_below m n sources p k below h = go (list_any (is_place n) p.symbols) h
  where
    go : (b : Bool) → k + length (if b then records_of n sources p.symbols else []) ≤ m →
        All (IsBelow m) (if b then productions_of_records p (records_of n sources p.symbols) k else p ∷ [])
    go true l = records_below m p (records_of n sources p.symbols) k l
    go false l = All-cons (IsBelow m) p [] below (All-nil (IsBelow m))

productions_below : (m : ℕ) (n : Text) (sources qs : List Production) (k : ℕ) → All (IsBelow m) qs →
    k + length (records_after n sources qs) ≤ m → All (IsBelow m) (productions_after n sources qs k)
productions_below m n sources [] k below h = All-nil (IsBelow m)
productions_below m n sources (p ∷ qs) k below h =
    let many = count_on n sources (p ∷ qs) qs p refl in
    All-append (IsBelow m) (productions_in_place n sources p k)
    (productions_after n sources qs (k + length (records_in_place n sources p)))
    (place_below m n sources p k (All-head (IsBelow m) p qs below) (omega (arith, many, h)))
    (productions_below m n sources qs (k + length (records_in_place n sources p)) (All-tail (IsBelow m) p qs below)
    (omega (arith, many, h)))

-- all productions of the rule have actions below this number
abbrev pub AreBelow : ℕ → NonterminalString × NonterminalData → Type 0
AreBelow m e = All (IsBelow m) e.1.productions

-- after a step all actions are below a number, where those before it are and the new ones end by it
pub entries_below : (m : ℕ) (n : Text) (sources : List Production) (es : NonterminalEntries) (k : ℕ) → All (AreBelow m) es →
    k + length (all_records_after n sources es) ≤ m → All (AreBelow m) (entries_after n sources es k)
entries_below m n sources [] k below h = All-nil (AreBelow m)
entries_below m n sources (e ∷ es) k below h =
    let many = all_count_on n sources (e ∷ es) es e refl in
    All-cons (AreBelow m) _ (entries_after n sources es (k + length (records_after n sources e.1.productions)))
    (productions_below m n sources e.1.productions k (All-head (AreBelow m) e es below) (omega (arith, many, h)))
    (entries_below m n sources es (k + length (records_after n sources e.1.productions)) (All-tail (AreBelow m) e es below)
    (omega (arith, many, h)))
