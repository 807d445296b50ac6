-- Whatever grammar was lowered, tables can be made of what comes out; for the pass.
use Rattle.std.specs.Prelude.{map}
use Rattle.std.proofs.Common.{◌≡◌, ◌∙◌, ◌⊎◌, ◌<◌, ◌≤◌, ℕ, ◌+◌, List, [], ◌∷◌, ◌++◌}
use Rattle.std.proofs.Common.{refl, ap, sym, subst, inl, inr, arith}
use Rattle.std.proofs.Common.{Ordering, length, length-append}
use Rattle.std.specs.declared.cmp.Ordering.TheVariants.{Less, Equal, Greater}
use Rattle.std.specs.Bool.{Decides}
use Rattle.std.specs.BTreeMap.{insert_entry}
use Rattle.std.specs.Ordering.{is_eq, match_ordering}
use Rattle.lalrpop_grammar_symbols.specs.Symbols.{Text, Terminal, Sym, WrittenSymbol}
use Rattle.lalrpop_grammar_symbols.specs.Views.{terminal_view}
use Rattle.lalrpop_grammar_symbols.specs.contracts.names.NonterminalStringOrd.TheImpl as names
use Rattle.lalrpop_grammar_symbols.specs.declared.names.NonterminalString.{NonterminalString}
use Rattle.lalrpop_grammar.specs.WrittenGrammar.{Alternative, Grammar, Rule, rules_of}
use Rattle.lalrpop_grammar_language.specs.Among.{Among}
use Rattle.lalrpop_grammar_language.specs.Expansion.{GrammarSymbol}
use Rattle.lalrpop_grammar_repr.specs.declared.production.NonterminalData.{NonterminalData}
use Rattle.lalrpop_grammar_repr.specs.declared.production.Production.{Production}
use Rattle.lalrpop_grammar_repr.specs.declared.production.Symbol.TheVariants as symbols
use Rattle.lalrpop_grammar_repr.specs.declared.types.Types.{Types}
use Rattle.lalrpop_grammar.specs.declared.types.type_repr.TypeRepr.{TypeRepr}
use Rattle.lalrpop_grammar_language.proofs.AmongLemmas.{flat_map_among}
use Rattle.lalrpop_grammar_language.proofs.AmongLemmas.{map_among}
use Rattle.lalrpop_grammar_language.proofs.AmongLemmas.{among_flat_map}
use Rattle.lalrpop_grammar_language.proofs.StepLemmas.{among_left}
use Rattle.lalrpop_grammar_language.proofs.OrderLemmas.{among_parts}
use Rattle.lalrpop_norm_tyinfer.specs.TerminalTypes.{HasTerminalTypes, inner_terminals, terminals_of_alternatives, terminals_of_items}
use Rattle.lalrpop_norm_tyinfer.specs.TerminalTypes.{terminals_of_rules, terminals_of_symbols}
use Rattle.lalrpop_norm_lower.specs.Definitions.{definition_of, type_in_table}
use Rattle.lalrpop_norm_lower.specs.LoweredLists.{LoweredNonterminal, LoweredProduction, alternative_productions, count_alternatives}
use Rattle.lalrpop_norm_lower.specs.LoweredLists.{lowered_definitions, lowered_entries, lowered_entry_view, lowered_production_view}
use Rattle.lalrpop_norm_lower.specs.LoweredLists.{put_entries, rule_definitions, rule_entries, rules_with_starts, start_definitions}
use Rattle.lalrpop_norm_lower.specs.LoweredLists.{start_entries, start_production}
use Rattle.lalrpop_norm_lower.specs.LoweredSymbols.{lowered_side, lowered_symbol, named_symbol}
use Rattle.lalrpop_norm_lower.specs.MadeLists.{IsMadeOfLists}
use Rattle.lalrpop_norm_lower.specs.TableReadiness.{IsReadyForTables}
use Rattle.lalrpop_norm_lower.specs.declared.lowering.Normalized.{Normalized}
use Rattle.lalrpop_norm_lower.proofs.ListedLemmas.{terminals_lowered}
use Rattle.lalrpop_norm_lower.proofs.LoweredLemmas.{mapped_many}
use Rattle.lalrpop_norm_lower.proofs.OrderLemmas.{equal_names}

-- entries of a map

module _ {K X : Type 0} (R : K → K → Ordering) (decides : (a b : K) → Decides (is_eq (R a b)) (a ≡ b)) where
  -- an entry of a map with one put in is that one, or was there
  among_any_put : (es : List (K × X)) (k : K) (v : X) (e : K × X) → Among (insert_entry R es k v) e → (e ≡ (k, v)) ⊎ Among es e
  among_any_put [] k v e (inl same) = inl (sym same)
  among_any_put [] k v e (inr i) = absurd i
  among_any_put (d ∷ es) k v e i = go (R k d.0) refl i (λ j. among_any_put es k v e j)
    where
      go : (o : Ordering) → R k d.0 ≡ o
          → Among (match_ordering o ((k, v) ∷ d ∷ es) ((d.0, v) ∷ es) (d ∷ insert_entry R es k v)) e
          → (Among (insert_entry R es k v) e → (e ≡ (k, v)) ⊎ Among es e) → (e ≡ (k, v)) ⊎ Among (d ∷ es) e
      go Less h (inl same) later = inl (sym same)
      go Less h (inr j) later = inr j
      go Equal h (inl same) later =
          let key : k ≡ d.0 = (decides k d.0).0 (ap is_eq h) in
          inl (sym same ∙ ap (λ (x : K). (x, v)) (sym key))
      go Equal h (inr j) later = inr (inr j)
      go Greater h (inl same) later = inr (inl same)
      go Greater h (inr j) later = past (later j)
        where
          past : (e ≡ (k, v)) ⊎ Among es e → (e ≡ (k, v)) ⊎ Among (d ∷ es) e
          past (inl same) = inl same
          past (inr l) = inr (inr l)

  -- and with many put in, one of these, or it was there
  among_all_any_put : (es more : List (K × X)) (e : K × X) → Among (put_entries R es more) e → Among es e ⊎ Among more e
  among_all_any_put es [] e i = inl i
  among_all_any_put es (d ∷ more) e i = go (among_all_any_put (insert_entry R es d.0 d.1) more e i)
    where
      here : (e ≡ (d.0, d.1)) ⊎ Among es e → Among es e ⊎ Among (d ∷ more) e
      here (inl same) = inr (inl (sym same))
      here (inr j) = inl j

      go : Among (insert_entry R es d.0 d.1) e ⊎ Among more e → Among es e ⊎ Among (d ∷ more) e
      go (inl j) = here (among_any_put es d.0 d.1 e j)
      go (inr j) = inr (inr j)

-- productions of lowered rules

-- the production is of this name, its action is below a number, and the terminals on its right side are among those of a list
record IsWithin (name : Text) (most : ℕ) (ts : List Terminal) (q : LoweredProduction) : Type 0 where
  pub nonterminal : q.production.nonterminal ≡ name
  pub action : q.production.action < most
  pub terminals : (t : Terminal) → Among q.production.symbols (GrammarSymbol.terminal t) → Among ts t

-- of more of both the same is so
widened : (name : Text) (most more : ℕ) (ts us : List Terminal) (q : LoweredProduction) → most ≤ more
    → ((t : Terminal) → Among ts t → Among us t) → IsWithin name most ts q → IsWithin name more us q
widened name most more ts us q le to h = record {
  nonterminal = h.nonterminal;
  action = let a = h.action in omega (arith, a, le);
  terminals = λ t i. to t (h.terminals t i);
}

start_within : (prefix : Text) (k : ℕ) (rs : List Rule) (l : LoweredNonterminal) (q : LoweredProduction)
    → Among (start_entries prefix k rs) l → Among l.productions q → IsWithin l.key (k + length rs) [] q
start_within prefix k [] l q i j = absurd i
start_within prefix k (r ∷ rs) l q (inl e) j =
    subst (λ (x : LoweredNonterminal). IsWithin x.key (k + length (r ∷ rs)) [] q) e
    (go (subst (λ (x : LoweredNonterminal). Among x.productions q) (sym e) j))
  where
    no_terminal : (t : Terminal) → Among (GrammarSymbol.nonterminal r.name ∷ []) (GrammarSymbol.terminal t) → Among [] t
    no_terminal t (inl f) = absurd (let wrong : ⊥ = cc in wrong)
    no_terminal t (inr f) = f

    go : Among (start_production prefix k r ∷ []) q → IsWithin (prefix ++ r.name) (k + length (r ∷ rs)) [] q
    go (inl f) =
        let a : q.production.action ≡ k = ap (λ (x : LoweredProduction). x.production.action) (sym f) in
        record {
          nonterminal = ap (λ (x : LoweredProduction). x.production.nonterminal) (sym f);
          action = omega (arith, a);
          terminals = λ t i.
              no_terminal t (subst (λ (x : LoweredProduction). Among x.production.symbols (GrammarSymbol.terminal t)) (sym f) i);
        }
    go (inr f) = absurd f
start_within prefix k (r ∷ rs) l q (inr i) j =
    let h = start_within prefix (k + 1) rs l q i j in
    widened l.key (k + 1 + length rs) (k + length (r ∷ rs)) [] [] q (omega arith) (λ t x. x) h

-- a terminal that a symbol is lowered to stands in the symbol
symbol_terminal : (s : WrittenSymbol) (t : Terminal) → Among (lowered_symbol s) (GrammarSymbol.terminal t)
    → Among (inner_terminals s) t
symbol_terminal (Sym.terminal p u) t (inl e) = inl (let same : u ≡ t = cc in same)
symbol_terminal (Sym.terminal p u) t (inr e) = absurd e
symbol_terminal (Sym.nonterminal p n) t (inl e) = absurd (let wrong : ⊥ = cc in wrong)
symbol_terminal (Sym.nonterminal p n) t (inr e) = absurd e
symbol_terminal (Sym.choose p x) t i = symbol_terminal x t i
symbol_terminal (Sym.name p mutable n x) t i = symbol_terminal x t i
symbol_terminal (Sym.ambiguous_id p n) t i = absurd i
symbol_terminal (Sym.macro p n args) t i = absurd i
symbol_terminal (Sym.expr p xs) t i = absurd i
symbol_terminal (Sym.repeat p op x) t i = absurd i
symbol_terminal (Sym.lookahead p) t i = absurd i
symbol_terminal (Sym.lookbehind p) t i = absurd i
symbol_terminal (Sym.error p) t i = absurd i

side_terminal : (xs : List WrittenSymbol) (t : Terminal) → Among (lowered_side xs) (GrammarSymbol.terminal t)
    → Among (terminals_of_symbols xs) t
side_terminal xs t i =
    let e = among_flat_map lowered_symbol xs (GrammarSymbol.terminal t) i in
    flat_map_among inner_terminals xs e.0 t e.1 (symbol_terminal e.0 t e.2)

alternative_within : (n : Text) (k : ℕ) (alts : List Alternative) (q : LoweredProduction) → Among (alternative_productions n k alts) q
    → IsWithin n (k + length alts) (terminals_of_alternatives alts) q
alternative_within n k [] q i = absurd i
alternative_within n k (a ∷ rest) q (inl e) =
    let same : q.production.action ≡ k = ap (λ (x : LoweredProduction). x.production.action) (sym e) in
    record {
      nonterminal = ap (λ (x : LoweredProduction). x.production.nonterminal) (sym e);
      action = omega (arith, same);
      terminals = λ t i.
          among_left (terminals_of_symbols a.expr) (terminals_of_alternatives rest) t
          (side_terminal a.expr t
          (subst (λ (x : LoweredProduction). Among x.production.symbols (GrammarSymbol.terminal t)) (sym e) i));
    }
alternative_within n k (a ∷ rest) q (inr i) =
    let h = alternative_within n (k + 1) rest q i in
    widened n (k + 1 + length rest) (k + length (a ∷ rest)) (terminals_of_alternatives rest) (terminals_of_alternatives (a ∷ rest)) q
    (omega arith) (λ t x. behind (terminals_of_symbols a.expr) (terminals_of_alternatives rest) t x) h
  where
    behind : (xs ys : List Terminal) (t : Terminal) → Among ys t → Among (xs ++ ys) t
    behind [] ys t x = x
    behind (y ∷ xs) ys t x = inr (behind xs ys t x)

rule_within : (k : ℕ) (rs : List Rule) (l : LoweredNonterminal) (q : LoweredProduction) → Among (rule_entries k rs) l
    → Among l.productions q → IsWithin l.key (k + count_alternatives rs) (terminals_of_rules rs) q
rule_within k [] l q i j = absurd i
rule_within k (r ∷ rs) l q (inl e) j =
    let own = alternative_within r.name k r.alternatives q
    (subst (λ (x : LoweredNonterminal). Among x.productions q) (sym e) j) in
    let h = subst (λ (x : LoweredNonterminal). IsWithin x.key (k + length r.alternatives) (terminals_of_alternatives r.alternatives) q)
    e own in
    widened l.key (k + length r.alternatives) (k + count_alternatives (r ∷ rs)) (terminals_of_alternatives r.alternatives)
    (terminals_of_rules (r ∷ rs)) q (omega arith)
    (λ t x. among_left (terminals_of_alternatives r.alternatives) (terminals_of_rules rs) t x) h
rule_within k (r ∷ rs) l q (inr i) j =
    let h = rule_within (k + length r.alternatives) rs l q i j in
    widened l.key (k + length r.alternatives + count_alternatives rs) (k + count_alternatives (r ∷ rs)) (terminals_of_rules rs)
    (terminals_of_rules (r ∷ rs)) q (omega arith)
    (λ t x. behind (terminals_of_alternatives r.alternatives) (terminals_of_rules rs) t x) h
  where
    behind : (xs ys : List Terminal) (t : Terminal) → Among ys t → Among (xs ++ ys) t
    behind [] ys t x = x
    behind (y ∷ xs) ys t x = inr (behind xs ys t x)

rule_definition_count : (table : List (NonterminalString × TypeRepr)) (rs : List Rule)
    → length (rule_definitions table rs) ≡ count_alternatives rs
rule_definition_count table [] = refl
rule_definition_count table (r ∷ rs) =
    let a = length-append (map (λ (x : Alternative). definition_of (type_in_table table r.name) x.action) r.alternatives)
    (rule_definitions table rs) in
    let b = mapped_many (λ (x : Alternative). definition_of (type_in_table table r.name) x.action) r.alternatives in
    let c = rule_definition_count table rs in
    omega (arith, a, b, c)

definition_count : (table : List (NonterminalString × TypeRepr)) (rs : List Rule)
    → length (lowered_definitions table rs) ≡ length (rules_with_starts rs) + count_alternatives rs
definition_count table rs =
    let starts = rules_with_starts rs in
    let a = length-append (start_definitions table starts) (rule_definitions table rs) in
    let b : length (start_definitions table starts) ≡ length starts = mapped_many _ starts in
    let c = rule_definition_count table rs in
    omega (arith, a, b, c)

-- each production of the lowered entries has one of the actions, and terminals of the rules alone
entry_within : (prefix : Text) (rs : List Rule) (l : LoweredNonterminal) (q : LoweredProduction)
    → Among (lowered_entries prefix rs) l → Among l.productions q
    → IsWithin l.key (length (rules_with_starts rs) + count_alternatives rs) (terminals_of_rules rs) q
entry_within prefix rs l q i j =
    go (among_parts (start_entries prefix 0 (rules_with_starts rs)) (rule_entries (length (rules_with_starts rs)) rs) l i)
  where
    go : Among (start_entries prefix 0 (rules_with_starts rs)) l ⊎ Among (rule_entries (length (rules_with_starts rs)) rs) l
        → IsWithin l.key (length (rules_with_starts rs) + count_alternatives rs) (terminals_of_rules rs) q
    go (inl x) =
        widened l.key (0 + length (rules_with_starts rs)) (length (rules_with_starts rs) + count_alternatives rs) []
        (terminals_of_rules rs) q (omega arith) (λ t y. absurd y) (start_within prefix 0 (rules_with_starts rs) l q x j)
    go (inr x) = rule_within (length (rules_with_starts rs)) rs l q x j

-- the whole

module _ (w : Grammar) (types : Types) (made : Normalized) (m : IsMadeOfLists w types made) where
  -- a production of the lowered grammar is as the rules have it
  production_within : (n : NonterminalString) (d : NonterminalData) (p : Production) → Among made.grammar.nonterminals (n, d)
      → Among d.productions p
      → IsWithin n.0 (length (rules_with_starts (rules_of w.items)) + count_alternatives (rules_of w.items))
      (terminals_of_rules (rules_of w.items)) (lowered_production_view p)
  production_within n d p i j =
      entry_within w.prefix (rules_of w.items) (lowered_entry_view (n, d)) (lowered_production_view p)
      (subst (λ es. Among es (lowered_entry_view (n, d))) m.nonterminals.entries_are
      (map_among lowered_entry_view m.nonterminals.entries (n, d)
      (put (among_all_any_put (names.ghosts).cmp equal_names [] m.nonterminals.entries (n, d)
      (subst (λ es. Among es (n, d)) m.nonterminals.put_in i)))))
      (map_among lowered_production_view d.productions p j)
    where
      put : Among {A = NonterminalString × NonterminalData} [] (n, d) ⊎ Among m.nonterminals.entries (n, d)
          → Among m.nonterminals.entries (n, d)
      put (inl x) = absurd x
      put (inr x) = x

  -- whatever grammar was lowered, with types for its terminals
  pub made_ready : HasTerminalTypes w types.terminal_types → IsReadyForTables made.grammar
  made_ready h = record {
    ascending = m.terminals.ascending;
    numbered = m.terminals.numbered;
    known = λ n d p t i j k.
        ((terminals_lowered w types.terminal_types made.grammar.terminals h m.terminals).members t).1
        (among_left (terminals_of_rules (rules_of w.items)) (terminals_of_items w.items) (terminal_view t)
        ((production_within n d p i j).terminals (terminal_view t) (map_among named_symbol p.symbols (symbols.Terminal t) k)));
    named = λ n d p i j. ap (λ (x : Text). record { 0 = x }) (production_within n d p i j).nonterminal;
    actions = λ n d p i j.
        subst (λ k. p.action.0 < k)
        (sym (definition_count types.nonterminal_types (rules_of w.items)) ∙ sym (ap length m.definitions))
        (production_within n d p i j).action;
  }
