-- Listed starts, types and terminals are those of the grammar; for lowering.
use Rattle.std.specs.Prelude.{IsSomeAnd, Option, Some, None, is_some, map}
use Rattle.std.specs.Map.{keys_of}
use Rattle.std.proofs.Common.{◌≡◌, ◌≢◌, ◌⊎◌, ◌∙◌, List, [], ◌∷◌, ◌++◌, refl, ap, sym, subst, inl}
use Rattle.std.proofs.Common.{inr, true}
use Rattle.lalrpop_grammar_symbols.specs.contracts.names.NonterminalStringOrd.TheImpl as names
use Rattle.lalrpop_grammar_symbols.specs.contracts.terminal.TerminalStringOrd.TheImpl as terminals
use Rattle.lalrpop_grammar_symbols.specs.declared.names.NonterminalString.{NonterminalString}
use Rattle.lalrpop_grammar_symbols.specs.declared.terminal.TerminalString.{TerminalString}
use Rattle.lalrpop_grammar.specs.WrittenGrammar.{Grammar, Rule, rules_of}
use Rattle.lalrpop_grammar_language.specs.Among.{Among}
use Rattle.lalrpop_grammar_language.proofs.PlaceLemmas.{among_filter, among_map}
use Rattle.lalrpop_grammar_repr.specs.Maps.{at_name, at_terminal}
use Rattle.lalrpop_grammar_repr.specs.declared.terminal_set.TerminalSet.{TerminalSet}
use Rattle.lalrpop_grammar_repr.specs.declared.types.Types.{Types}
use Rattle.lalrpop_grammar.specs.declared.types.type_repr.TypeRepr.{TypeRepr}
use Rattle.lalrpop_grammar_language.proofs.AmongLemmas.{map_among}
use Rattle.lalrpop_norm_theory.proofs.LevelLemmas.{keeps}
use Rattle.lalrpop_norm_tyinfer.specs.TerminalTypes.{HasTerminalTypes}
use Rattle.lalrpop_norm_tyinfer.specs.TypeFaults.{nonterminal_of}
use Rattle.lalrpop_norm_lower.specs.Definitions.{type_in_table, type_or_unit}
use Rattle.lalrpop_norm_lower.specs.Lowered.{AreListedStarts, AreLoweredTerminals, AreLoweredTypes, HasStartNamed, start_of}
use Rattle.lalrpop_norm_lower.specs.LoweredLists.{gets_start, rules_with_starts, start_name_entries, start_type_entries}
use Rattle.lalrpop_norm_lower.specs.MadeLists.{IsMadeTerminalSet, put_names}
use Rattle.lalrpop_norm_lower.proofs.EarlierLemmas.{Earlier}
use Rattle.lalrpop_norm_lower.proofs.ExpansionRowLemmas.{HaveOwnNames, append_same, earlier_kept}
use Rattle.lalrpop_norm_lower.proofs.OrderLemmas.{equal_names, equal_terminals}
use Rattle.lalrpop_norm_lower.proofs.PutLemmas.{CanPut, HaveOwnKeys, among_of_all_put, found_among, key_found, lookup_kept, lookup_put}

mapped_keys : {X : Type 0} (f : Rule → NonterminalString × X) (rs : List Rule)
    → ((r q : Rule) → HaveOwnNames r q → (f r).0 ≢ (f q).0) → Earlier HaveOwnNames rs
    → Earlier (HaveOwnKeys (names.ghosts).cmp equal_names) (map f rs)
mapped_keys f [] to h = tt
mapped_keys f (r ∷ rs) to h = (
  λ e i. let m = among_map f rs e i in subst (λ (x : NonterminalString × _). (f r).0 ≢ x.0) m.2 (to r m.0 (h.0 m.0 m.1)),
  mapped_keys f rs to h.1,
)

has_found : {A : Type 0} (P : A → Type 0) (o : Option A) → IsSomeAnd o P → (x : A) × (o ≡ Some x) × P x
has_found P None h = absurd h
has_found P (Some x) h = (x, refl, h)

type_there : (o : Option TypeRepr) → is_some o ≡ true → Some (type_or_unit o) ≡ o
type_there None e = absurd (let wrong : ⊥ = cc in wrong)
type_there (Some t) e = refl

module _ (w : Grammar) (apart : Earlier HaveOwnNames (rules_of w.items)) where
  abbrev starts : List Rule
  starts = rules_with_starts (rules_of w.items)

  starts_apart : Earlier HaveOwnNames starts
  starts_apart = earlier_kept HaveOwnNames gets_start (rules_of w.items) apart

  abbrev name_entry : Rule → NonterminalString × NonterminalString
  name_entry r = (nonterminal_of r.name, nonterminal_of (w.prefix ++ r.name))

  name_keys : Earlier (HaveOwnKeys (names.ghosts).cmp equal_names) (start_name_entries w.prefix starts)
  name_keys = mapped_keys name_entry starts (λ r q h same. h (ap (λ (n : NonterminalString). n.0) same)) starts_apart

  names_can : CanPut (names.ghosts).cmp equal_names [] (start_name_entries w.prefix starts)
  names_can = record { own = name_keys; free = λ e d i. absurd i }

  start_named : (r : Rule) (n start : NonterminalString) → Among starts r → (n ≡ nonterminal_of r.name) → (start ≡ start_of w r)
      → (q : Rule) × HasStartNamed w q start × (n ≡ nonterminal_of q.name)
  start_named r n start i e f =
      let m = among_filter gets_start (rules_of w.items) r i in (r, record { rule = m.0; starts = m.1; name_is = f }, e)

  pub starts_listed : AreListedStarts w (put_names [] (start_name_entries w.prefix starts))
  starts_listed = record {
    every = λ r i s.
        lookup_put (names.ghosts).cmp equal_names [] (start_name_entries w.prefix starts) name_keys (name_entry r)
        (map_among name_entry starts r (keeps gets_start (rules_of w.items) r i s));
    no_other = λ n start e.
        go n start (among_of_all_put (names.ghosts).cmp equal_names [] (start_name_entries w.prefix starts) names_can (n, start)
        (found_among (names.ghosts).cmp equal_names (put_names [] (start_name_entries w.prefix starts)) n start e));
  }
    where
      go : (n start : NonterminalString) → Among {A = NonterminalString × NonterminalString} [] (n, start)
          ⊎ Among (start_name_entries w.prefix starts) (n, start)
          → (q : Rule) × HasStartNamed w q start × (n ≡ nonterminal_of q.name)
      go n start (inl i) = absurd i
      go n start (inr i) =
          let m = among_map name_entry starts (n, start) i in
          start_named m.0 n start m.1 (sym (ap (λ (x : NonterminalString × NonterminalString). x.0) m.2))
          (sym (ap (λ (x : NonterminalString × NonterminalString). x.1) m.2))

  module _ (types made : Types)
      (typed : (r : Rule) → Among (rules_of w.items) r → is_some (at_name (nonterminal_of r.name) types.nonterminal_types) ≡ true)
      (same : made.terminal_types ≡ types.terminal_types)
      (put : made.nonterminal_types
      ≡ put_names types.nonterminal_types (start_type_entries types.nonterminal_types w.prefix starts)) where
    abbrev table : List (NonterminalString × TypeRepr)
    table = types.nonterminal_types

    abbrev type_entry : Rule → NonterminalString × TypeRepr
    type_entry r = (nonterminal_of (w.prefix ++ r.name), type_in_table table r.name)

    type_keys : Earlier (HaveOwnKeys (names.ghosts).cmp equal_names) (start_type_entries table w.prefix starts)
    type_keys =
        mapped_keys type_entry starts
        (λ r q h e. h (append_same w.prefix r.name q.name (ap (λ (n : NonterminalString). n.0) e))) starts_apart

    pub types_lowered : AreLoweredTypes w types made
    types_lowered = record {
      terminals = same;
      starts = λ r i s.
          ap (at_name (start_of w r)) put
          ∙ lookup_put (names.ghosts).cmp equal_names table (start_type_entries table w.prefix starts) type_keys (type_entry r)
          (map_among type_entry starts r (keeps gets_start (rules_of w.items) r i s))
          ∙ type_there (at_name (nonterminal_of r.name) table) (typed r i);
      others = λ n h.
          ap (at_name n) put
          ∙ lookup_kept (names.ghosts).cmp equal_names table (start_type_entries table w.prefix starts) n
          (λ d i e.
          let m = among_map type_entry starts d i in
          let f = among_filter gets_start (rules_of w.items) m.0 m.1 in
          h m.0 (record {
            rule = f.0;
            starts = f.1;
            name_is = e ∙ sym (ap (λ (x : NonterminalString × TypeRepr). x.0) m.2);
          }));
    }

key_there : (es : List (TerminalString × TypeRepr)) (t : TerminalString) (u : TypeRepr) → Among es (t, u) → Among (keys_of es) t
key_there es t u i = map_among (λ (e : TerminalString × TypeRepr). e.0) es (t, u) i

-- a set made of a table that types the grammar's terminals has just these, in order and numbered by place
pub terminals_lowered : (w : Grammar) (table : List (TerminalString × TypeRepr)) (set : TerminalSet) → HasTerminalTypes w table
    → IsMadeTerminalSet table set → AreLoweredTerminals w set
terminals_lowered w table set h m = record {
  ascending = m.ascending;
  members = λ t. (
    λ i.
        let f = has_found (λ v. Among table (t, v)) (at_terminal t table)
        (key_found (terminals.ghosts).cmp equal_terminals table t (subst (λ l. Among l t) m.all_are i)) in
        h.only t f.0 f.1,
    λ i.
        let f = has_found _ (at_terminal t table) (h.typed t i) in
        subst (λ l. Among l t) (sym m.all_are)
        (key_there table t f.0 (found_among (terminals.ghosts).cmp equal_terminals table t f.0 f.1)),
  );
  numbered = m.numbered;
}
