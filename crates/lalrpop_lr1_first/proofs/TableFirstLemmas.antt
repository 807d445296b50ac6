-- Sets by number that are first sets, under the names of a table: for the first sets of a grammar.
use Rattle.std.proofs.Common.{◌≡◌, ◌∙◌, ◌↔◌, ℕ, ◌-◌, ◌<◌, ◌≤◌, true, false, List, []}
use Rattle.std.proofs.Common.{◌∷◌, length, map, refl, sym, ap, subst, arith, slice_get, Option, Some, None, Contains}
use Rattle.std.specs.Prelude.{option_map}
use Rattle.std.proofs.lemmas.Option.{slice_get_within}
use Rattle.lalrpop_grammar_symbols.specs.declared.names.NonterminalString.{NonterminalString}
use Rattle.lalrpop_grammar_repr.specs.Maps.{at_name}
use Rattle.lalrpop_grammar_repr.specs.declared.grammar.Grammar.{Grammar}
use Rattle.lalrpop_grammar_repr.specs.declared.terminal_set.TerminalSet.{TerminalSet}
use Rattle.lalrpop_lr1_theory.specs.Productions as theory
use Rattle.lalrpop_lr1_theory.specs.FirstSets.{First0}
use Rattle.lalrpop_lr1_theory.proofs.ListLemmas.{get_contains}
use Rattle.lalrpop_lr1_core.specs.Views.{next_of_number, production_view}
use Rattle.lalrpop_lr1_core.proofs.MemberLemmas.{in_map, map_has}
use Rattle.lalrpop_sets.specs.AscendingLists.{has}
use Rattle.lalrpop_sets.specs.Tokens.{eof_number}
use Rattle.lalrpop_lr1_first.specs.FirstNumbers.{AreSymbolFirsts, name_count, rule_of, table_end, table_rules}
use Rattle.lalrpop_lr1_first.specs.FirstSetsOf.{AreFirstSetsOf, IsFirstSet, IsProductionOf, named_from, set_at_name, set_or_none}
use Rattle.lalrpop_lr1_first.specs.Listings.{HoldSame}
use Rattle.lalrpop_lr1_core.specs.TheoryGrammars.{productions_of_grammar}
use Rattle.lalrpop_lr1_first.specs.NumberedGrammars.{IsSeenIn, IsNumberTableOf, table_names, table_productions}
use Rattle.lalrpop_lr1_first.specs.Numbers.{RuleByNumbers, SpellsSymbols, says, set_of_number}
use Rattle.lalrpop_lr1_first.specs.Tables.{IsTerminalSet, pairs_from, symbol_of_number, symbol_or}
use Rattle.lalrpop_lr1_first.specs.declared.numbered.Numbered.{Numbered}
use Rattle.lalrpop_lr1_first.proofs.FirstNumberLemmas.{says_first}
use Rattle.lalrpop_lr1_first.proofs.NameLemmas.{pairs_sound, pairs_total}
use Rattle.lalrpop_lr1_first.proofs.NamedFirstLemmas.{first_by, first_more, named_at, says_alone}
use Rattle.lalrpop_lr1_first.proofs.TableLemmas.{is_item_table, long_map, name_at, rules_are, table_numbering}

-- the productions of lists with the same elements are seen alike
pub seen_same : {X : Type 0} (f : X → theory.Production) (xs ys : List X) → HoldSame xs ys → (p : theory.Production) →
    Contains (map f xs) p → Contains (map f ys) p
seen_same f xs ys same p c =
    let m = in_map f xs p c in subst (Contains (map f ys)) m.2 (map_has f ys m.0 ((same m.0).0 m.1))

-- a rule has its place
pub rule_within : (table : Numbered) (r : ℕ) (rule : RuleByNumbers) → slice_get (table_rules table) r ≡ Some rule →
    r < length table.rules.items
rule_within table r rule e =
    omega (arith, slice_get_within (table_rules table) r rule e, long_map (rule_of table.places.items) table.rules.items)

module _ (g : Grammar) (table : Numbered) (of : IsNumberTableOf g table) (sets : List (List ℕ)) (firsts : AreSymbolFirsts table sets)
  where
    abbrev symbol_at : ℕ → Option theory.Symbol
    symbol_at = symbol_of_number (table_names table) table.terminals.now

    -- by number, the sets say first sets
    pub table_says : (xs : List ℕ) (ys : List theory.Symbol) → SpellsSymbols symbol_at xs ys → (k : ℕ) → k ≤ table_end table →
        (says sets (table_end table) xs k ≡ true →
        First0 (IsSeenIn (table_productions table)) ys (next_of_number table.terminals.now k))
        × (First0 (IsSeenIn (table_productions table)) ys (next_of_number table.terminals.now k) →
        says sets (table_end table) xs k ≡ true)
    table_says = says_first symbol_at (next_of_number table.terminals.now) (table_end table) (name_count table)
        (table_numbering table of.numbers) sets firsts.sets_are.terminals (IsSeenIn (table_productions table)) (table_rules table)
        (rules_are table of.numbers) firsts.closed firsts.sound

    to_grammar : (xs : List theory.Symbol) (x : theory.Next) → First0 (IsSeenIn (table_productions table)) xs x →
        First0 (IsProductionOf g) xs x
    to_grammar xs x h = first_more (IsSeenIn (table_productions table)) (IsProductionOf g)
        (seen_same production_view (table_productions table) (productions_of_grammar g) of.productions) xs x h

    to_table : (xs : List theory.Symbol) (x : theory.Next) → First0 (IsProductionOf g) xs x →
        First0 (IsSeenIn (table_productions table)) xs x
    to_table xs x h = first_more (IsProductionOf g) (IsSeenIn (table_productions table))
        (seen_same production_view (productions_of_grammar g) (table_productions table) (λ p. (
          (of.productions p).1,
          (of.productions p).0,
        ))) xs x h

    -- under their names they are the grammar's first sets
    pub named_firsts : (entries : List (NonterminalString × List ℕ)) → entries ≡ named_from 0 (table_names table) sets →
        AreFirstSetsOf g entries
    named_firsts entries are = record {
      numbered = subst (λ ts. IsTerminalSet ts) of.terminals of.numbers.terminals;
      at = λ n. go n (at_name n (pairs_from 0 (table_names table))) refl;
    }
      where
        own : (n : NonterminalString) (o : Option ℕ) → at_name n (pairs_from 0 (table_names table)) ≡ o →
            set_at_name entries n ≡ set_or_none (option_map (set_of_number sets) o)
        own n o e = ap (λ es. set_at_name es n) are ∙ ap set_or_none (named_at (table_names table) 0 sets n
            ∙ ap (option_map (set_of_number sets)) e)

        at_terminals : (P : TerminalSet → Type 0) → P table.terminals.now → P g.terminals
        at_terminals P h = subst P of.terminals h

        known : (n : NonterminalString) (s : ℕ) → slice_get (table_names table) s ≡ Some n → (k : ℕ) →
            (has (set_of_number sets s) k ≡ true) ↔ ((k ≤ table_end table)
            × First0 (IsProductionOf g) (theory.nonterminal n.0 ∷ []) (next_of_number table.terminals.now k))
        known n s at k =
            let spelled : symbol_at s ≡ Some (theory.nonterminal n.0) = ap (λ o. symbol_or o (slice_get table.terminals.now.all
            (s - length (table_names table)))) at in
            let alone = says_alone (set_of_number sets) (table_end table) s k in (
              λ h. let l = firsts.sets_are.within s k h in (
                l,
                to_grammar (theory.nonterminal n.0 ∷ []) (next_of_number table.terminals.now k)
                    ((table_says (s ∷ []) (theory.nonterminal n.0 ∷ []) (spelled, tt) k l).0 (alone ∙ h)),
              ),
              λ h. sym alone ∙ (table_says (s ∷ []) (theory.nonterminal n.0 ∷ []) (spelled, tt) k h.0).1
                  (to_table (theory.nonterminal n.0 ∷ []) (next_of_number table.terminals.now k) h.1),
            )

        go : (n : NonterminalString) (o : Option ℕ) → at_name n (pairs_from 0 (table_names table)) ≡ o →
            IsFirstSet g (theory.nonterminal n.0 ∷ []) (set_at_name entries n)
        go n None e k = (
          λ h. let w : false ≡ true = sym (ap (λ s. has s k) (own n None e)) ∙ h in let v : ⊥ = cc in absurd v,
          λ h.
              let d = to_table (theory.nonterminal n.0 ∷ []) (next_of_number g.terminals k) h.1 in
              let p = first_by (IsSeenIn (table_productions table)) n.0 (next_of_number g.terminals k) d in
              absurd (unknown n e p.0 p.1 p.2),
        )
          where
            unknown : (n : NonterminalString) → at_name n (pairs_from 0 (table_names table)) ≡ None → (p : theory.Production) →
                IsSeenIn (table_productions table) p → p.left ≡ n.0 → ⊥
            unknown n e p c is =
                let st = (is_item_table table of.numbers).all p c in
                let m = name_at table.terminals.now of.numbers.terminals (table_names table) of.numbers.names st.0.left p.left st.1.left in
                let one : m.0 ≡ n = ap (λ t. record { 0 = t }) (m.2 ∙ is) in
                let there = pairs_total (table_names table) 0 n (subst (Contains (table_names table)) one (get_contains
                (table_names table) st.0.left m.0 m.1)) in
                let both : Some there.0 ≡ None = sym there.1 ∙ e in
                let w : ⊥ = cc in w
        go n (Some s) e k =
            let at = pairs_sound (table_names table) 0 n s e in
            let here : slice_get (table_names table) s ≡ Some n = ap (slice_get (table_names table)) (let z : s ≡ at.0 = omega (
              arith,
              at.1,
            ) in z) ∙ at.2 in
            subst (λ set. (has set k ≡ true) ↔ ((k ≤ eof_number g.terminals)
            × First0 (IsProductionOf g) (theory.nonterminal n.0 ∷ []) (next_of_number g.terminals k)))
            (sym (own n (Some s) e))
            (at_terminals (λ ts. (has (set_of_number sets s) k ≡ true) ↔ ((k ≤ eof_number ts)
            × First0 (IsProductionOf g) (theory.nonterminal n.0 ∷ []) (next_of_number ts k)))
            (known n s here k))
