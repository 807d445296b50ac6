-- A grammar whose names are resolved has the expansion that it had; for resolving.
use Rattle.std.specs.Str.{bytes_eq}
use Rattle.std.proofs.Common.{◌≡◌, ℕ, ◌+◌, List, [], ◌∷◌, ◌++◌, refl}
use Rattle.std.proofs.Common.{ap, sym, ◌∙◌, subst, Bool, true, false, inl}
use Rattle.std.specs.Prelude.{Option, Some, None, ◌↔◌, map, flat_map, option_map, not, is_some, ◌&&◌, if◌then◌else◌}
use Rattle.lalrpop_grammar_symbols.specs.Symbols.{Text, TextSpan, Terminal, Sym, WrittenSymbol, Closed, Closeds, closed_list}
use Rattle.lalrpop_grammar.specs.WrittenGrammar.{Alternative, Rule, Origin, WrittenItem, Grammar, rules_of, Ty, Tys}
use Rattle.lalrpop_grammar_language.specs.Among.{Among}
use Rattle.lalrpop_grammar_language.specs.Enabled.{EnabledGrammar, EnabledRule, Choice, IsRule, has_text, has_name, rules_named}
use Rattle.lalrpop_grammar_language.specs.Enabled.{choice_of, bares_of, bare_of}
use Rattle.lalrpop_grammar_language.specs.Closing.{Binding, parameter_value, name_meaning, name_meaning_in, occurrences}
use Rattle.lalrpop_grammar_language.specs.Closing.{plain_name, close, name_or}
use Rattle.lalrpop_grammar_language.specs.Admitting.{bind}
use Rattle.lalrpop_grammar_language.proofs.PlaceLemmas.{same_text-eq, among_filter}
use Rattle.lalrpop_norm_theory.specs.Between.{with_origins, rule_between, name_in_origins, written_name, grammar_between}
use Rattle.lalrpop_norm_theory.specs.Same.{SameExpansion}
use Rattle.lalrpop_norm_theory.specs.Inlined.{SameInlined}
use Rattle.lalrpop_norm_theory.specs.Types.{SameTypes}
use Rattle.lalrpop_norm_theory.specs.Depth.{HasCallChain}
use Rattle.lalrpop_norm_theory.specs.Keys.{leveled_key_text, IsNaming}
use Rattle.lalrpop_grammar_language.specs.Expansion.{Nonterminal}
use Rattle.lalrpop_norm_theory.proofs.NamingChangeLemmas.{changed_naming}
use Rattle.lalrpop_norm_theory.specs.Resolving.{DefinedNames, defined_names, NameUse, use_of_name, resolved_name, resolved_symbol}
use Rattle.lalrpop_norm_theory.specs.Resolving.{resolved_type, resolved_types, resolved_alternative, resolved_rule, resolved_item}
use Rattle.lalrpop_norm_theory.specs.Resolving.{resolved_grammar}
use Rattle.lalrpop_norm_theory.proofs.RuleChangeLemmas.{RuleChange, changed_choice, changed_rule, HasChangedRules}
use Rattle.lalrpop_norm_theory.proofs.RuleChangeLemmas.{KeepsSides, changed_expansion, changed_inlined}
use Rattle.lalrpop_norm_theory.proofs.ClosedNameLemmas.{scope_in, name_closed, side_kept, CountsAlike, ClosesAlike}
use Rattle.lalrpop_norm_theory.proofs.TypeChangeLemmas.{mapped_type, mapped_types, KeepsDeclared, symbol_kept, changed_types}
use Rattle.lalrpop_norm_theory.proofs.TypeChangeLemmas.{changed_chains}
use Rattle.lalrpop_norm_theory.proofs.NameUseLemmas.{IsUse, use_is, no_value, no_rule_named}
use Rattle.lalrpop_norm_theory.specs.NamesByUse.{IsNamingByUse}
use Rattle.lalrpop_norm_theory.specs.UsedKeys.{IsListByUse}
use Rattle.lalrpop_norm_theory.proofs.UseChangeLemmas.{list_before, naming_before}

-- rules with resolved names

abbrev pub name_change : DefinedNames → RuleChange
name_change d = record {
  declared = λ r. option_map (resolved_type d r.parameters) r.declared;
  expr = λ r c. map (resolved_symbol d r.parameters) c.expr;
  attributes = λ l. l;
}

pub choices_changed : (d : DefinedNames) (r : EnabledRule) (alternatives : List Alternative) →
    map choice_of (with_origins (map (resolved_alternative d r.parameters) alternatives))
    ≡ map (changed_choice (name_change d) r) (map choice_of (with_origins alternatives))
choices_changed d r [] = refl
choices_changed d r (a ∷ rest) =
    ap (λ l. changed_choice (name_change d) r (choice_of (a.origin, a)) ∷ l) (choices_changed d r rest)

pub rule_changed : (d : DefinedNames) (r : Rule) → rule_between (resolved_rule d r) ≡ changed_rule (name_change d) (rule_between r)
rule_changed d r = ap rule_with (choices_changed d (rule_between r) r.alternatives)
  where
    rule_with : List Choice → EnabledRule
    rule_with cs = record (rule_between r) { declared = option_map (resolved_type d r.parameters) r.declared; choices = cs }

-- the rules of the items are resolved, one by one
pub rules_resolved : (d : DefinedNames) (items : List WrittenItem) →
    rules_of (map (resolved_item d) items) ≡ map (resolved_rule d) (rules_of items)
rules_resolved d [] = refl
rules_resolved d (WrittenItem.nonterminal r ∷ items) = ap (λ l. resolved_rule d r ∷ l) (rules_resolved d items)
rules_resolved d (WrittenItem.match_token entries place ∷ items) = rules_resolved d items
rules_resolved d (WrittenItem.extern_token block ∷ items) = rules_resolved d items
rules_resolved d (WrittenItem.intern_token entries ∷ items) = rules_resolved d items
rules_resolved d (WrittenItem.import text ∷ items) = rules_resolved d items

-- mapped bare names stay
pub bares_resolved : (d : DefinedNames) (items : List WrittenItem) → bares_of (map (resolved_item d) items) ≡ bares_of items
bares_resolved d [] = refl
bares_resolved d (WrittenItem.nonterminal r ∷ items) = bares_resolved d items
bares_resolved d (WrittenItem.match_token entries place ∷ items) =
    ap (λ l. flat_map (flat_map bare_of) entries ++ l) (bares_resolved d items)
bares_resolved d (WrittenItem.extern_token block ∷ items) = bares_resolved d items
bares_resolved d (WrittenItem.intern_token entries ∷ items) = bares_resolved d items
bares_resolved d (WrittenItem.import text ∷ items) = bares_resolved d items

pub all_changed : (d : DefinedNames) (rs : List Rule) →
    map rule_between (map (resolved_rule d) rs) ≡ map (changed_rule (name_change d)) (map rule_between rs)
all_changed d [] = refl
all_changed d (r ∷ rs) =
    ap (λ q. q ∷ map rule_between (map (resolved_rule d) rs)) (rule_changed d r)
    ∙ ap (λ l. changed_rule (name_change d) (rule_between r) ∷ l) (all_changed d rs)

pub origins_kept : (d : DefinedNames) (ps : List Text) (alternatives : List Alternative) →
    map (λ (a : Alternative). a.origin) (map (resolved_alternative d ps) alternatives)
    ≡ map (λ (a : Alternative). a.origin) alternatives
origins_kept d ps [] = refl
origins_kept d ps (a ∷ rest) = ap (λ l. a.origin ∷ l) (origins_kept d ps rest)

pub names_kept : (d : DefinedNames) (rs : List Rule) (n : Text) → written_name (map (resolved_rule d) rs) n ≡ written_name rs n
names_kept d [] n = refl
names_kept d (r ∷ rs) n =
    ap (λ (os : List Origin). if bytes_eq r.name n then name_in_origins n os else written_name (map (resolved_rule d) rs) n)
    (origins_kept d r.parameters r.alternatives)
    ∙ ap (λ (m : Text). if bytes_eq r.name n then name_in_origins n (map (λ (a : Alternative). a.origin) r.alternatives) else m)
    (names_kept d rs n)

all_names_kept : (d : DefinedNames) (items : List WrittenItem) →
    written_name (rules_of (map (resolved_item d) items)) ≡ written_name (rules_of items)
all_names_kept d items = ap written_name (rules_resolved d items) ∙ pointwise
  where
    pointwise : written_name (map (resolved_rule d) (rules_of items)) ≡ written_name (rules_of items)
    pointwise = λ i n. names_kept d (rules_of items) n i

rules_changed : (finds : Text → Text → Option Bool) (g : Grammar) →
    HasChangedRules (name_change (defined_names g)) (grammar_between finds g) (grammar_between finds (resolved_grammar g))
rules_changed finds g = record {
  rules = ap (map rule_between) (rules_resolved (defined_names g) g.items) ∙ all_changed (defined_names g) (rules_of g.items);
  bares = bares_resolved (defined_names g) g.items;
  finds = refl;
  spelled = all_names_kept (defined_names g) g.items;
  ranks = record { marks = λ l. refl; level = λ l. refl; side = λ l. refl };
}

-- what stands for a name closes as the name

abbrev replacement : DefinedNames → List Text → TextSpan → Text → WrittenSymbol
replacement d ps p n = resolved_name (use_of_name d ps n) p n

-- a mapped name is no rule's
none_named : (finds : Text → Text → Option Bool) (g : Grammar) (ps : List Text) (n : Text) →
    IsUse (defined_names g) ps n NameUse.mapped → rules_named (grammar_between finds g) n ≡ []
none_named finds g ps n u = no_rule_named (rules_of g.items) n u.1 u.2

-- one that is left as a name
stays_closed : (w : RuleChange) (g h : EnabledGrammar) → HasChangedRules w g h → (b : Binding) (o : Text) (e : ℕ → Option ℕ)
    (k : ℕ) (p : TextSpan) (n : Text) →
    close (scope_in h b o e) k (Sym.ambiguous_id p n) ≡ close (scope_in g b o e) k (Sym.ambiguous_id p n)
stays_closed w g h s b o e k p n = ap (name_or (parameter_value b n)) (name_closed w g h s b o e k n)

module _ (finds : Text → Text → Option Bool) (g : Grammar) (m : Text) (r : EnabledRule) (is_rule : IsRule (grammar_between finds g) m r)
    (args : Closeds) where
  abbrev before : EnabledGrammar
  before = grammar_between finds g

  abbrev after : EnabledGrammar
  after = grammar_between finds (resolved_grammar g)

  abbrev names : DefinedNames
  names = defined_names g

  unbound : (n : Text) → has_text n r.parameters ≡ false → parameter_value (bind r args) n ≡ None
  unbound n e = no_value r.parameters (closed_list args) n e

  closed_by_use : (u : NameUse) (e : ℕ → Option ℕ) (k : ℕ) (p : TextSpan) (n : Text) → IsUse names r.parameters n u →
      close (scope_in after (bind r args) r.name e) k (resolved_name u p n)
      ≡ close (scope_in before (bind r args) r.name e) k (Sym.ambiguous_id p n)
  closed_by_use NameUse.parameter e k p n w =
      stays_closed (name_change names) before after (rules_changed finds g) (bind r args) r.name e k p n
  closed_by_use NameUse.macro_rule e k p n w =
      stays_closed (name_change names) before after (rules_changed finds g) (bind r args) r.name e k p n
  closed_by_use NameUse.nothing e k p n w =
      stays_closed (name_change names) before after (rules_changed finds g) (bind r args) r.name e k p n
  closed_by_use NameUse.plain_rule e k p n w =
      name_closed (name_change names) before after (rules_changed finds g) (bind r args) r.name e k n
      ∙ ap (λ (v : Option Closed). name_or v (plain_name (scope_in before (bind r args) r.name e) k n (name_meaning before n)))
      (sym (unbound n w.0))
  closed_by_use NameUse.mapped e k p n w =
      ap (λ (bs : List Text). if has_text n bs then Closed.terminal (Terminal.bare n) else Closed.faulty)
      (bares_resolved names g.items)
      ∙ ap (λ (b : Bool). if b then Closed.terminal (Terminal.bare n) else Closed.faulty) w.3
      ∙ sym (ap (λ (v : Option Closed). name_or v (plain_name (scope_in before (bind r args) r.name e) k n (name_meaning before n)))
      (unbound n w.0)
      ∙ ap (λ (b : Bool). plain_name (scope_in before (bind r args) r.name e) k n (name_meaning_in (rules_named before n) b)) w.3
      ∙ ap (λ (rs : List EnabledRule). plain_name (scope_in before (bind r args) r.name e) k n (name_meaning_in rs true))
      (none_named finds g r.parameters n w))

  and_true : (b : Bool) → (b && true) ≡ b
  and_true true = refl
  and_true false = refl

  -- a name without a rule isn't the owner's
  not_owner : (n : Text) → rules_named before n ≡ [] → (b : Bool) → bytes_eq n r.name ≡ b → b ≡ false
  not_owner n none false e = refl
  not_owner n none true e =
      let found = among_filter (has_name m) before.rules r (subst (λ l. Among l r) (sym is_rule) (inl refl)) in
      let same : n ≡ m = same_text-eq n r.name e ∙ same_text-eq r.name m found.1 in
      let empty : [] ≡ r ∷ [] = sym none ∙ ap (rules_named before) same ∙ is_rule in cc

  counted_by_use : (u : NameUse) (p : TextSpan) (n : Text) → IsUse names r.parameters n u →
      occurrences (bind r args) r.name (resolved_name u p n) ≡ occurrences (bind r args) r.name (Sym.ambiguous_id p n)
  counted_by_use NameUse.parameter p n w = refl
  counted_by_use NameUse.macro_rule p n w = refl
  counted_by_use NameUse.nothing p n w = refl
  counted_by_use NameUse.plain_rule p n w =
      ap (λ (b : Bool). (if b then 1 else 0) + 0) (sym (and_true (bytes_eq n r.name)))
      ∙ ap (λ (v : Option Closed). (if bytes_eq n r.name && not (is_some v) then 1 else 0) + 0) (sym (unbound n w.0))
  counted_by_use NameUse.mapped p n w =
      ap (λ (b : Bool). (if b && not (is_some (parameter_value (bind r args) n)) then 1 else 0) + 0)
      (sym (not_owner n (none_named finds g r.parameters n w) (bytes_eq n r.name) refl))

counts_alike : (finds : Text → Text → Option Bool) (g : Grammar) (n : Text) (r : EnabledRule) →
    IsRule (grammar_between finds g) n r →
    (args : Closeds) → CountsAlike (replacement (defined_names g) r.parameters) (bind r args) r.name
counts_alike finds g n r i args = λ q m.
    counted_by_use finds g n r i args (use_of_name (defined_names g) r.parameters m) q m (use_is (defined_names g) r.parameters m)

closes_alike : (finds : Text → Text → Option Bool) (g : Grammar) (n : Text) (r : EnabledRule) →
    IsRule (grammar_between finds g) n r →
    (args : Closeds) → ClosesAlike (replacement (defined_names g) r.parameters) (grammar_between finds g)
    (grammar_between finds (resolved_grammar g)) (bind r args) r.name
closes_alike finds g n r i args = λ e k q m.
    closed_by_use finds g n r i args (use_of_name (defined_names g) r.parameters m) e k q m (use_is (defined_names g) r.parameters m)

sides_kept : (finds : Text → Text → Option Bool) (g : Grammar) →
    KeepsSides (name_change (defined_names g)) (grammar_between finds g) (grammar_between finds (resolved_grammar g))
sides_kept finds g n r i args p =
    side_kept (name_change (defined_names g)) (grammar_between finds g) (grammar_between finds (resolved_grammar g))
    (rules_changed finds g) r (replacement (defined_names g) r.parameters) (λ c. refl) (bind r args)
    (counts_alike finds g n r i args) (closes_alike finds g n r i args) p

-- the symbols of declared types are resolved, one by one
mutual
  type_mapped : (d : DefinedNames) (ps : List Text) (y : Ty) → resolved_type d ps y ≡ mapped_type (resolved_symbol d ps) y
  type_mapped d ps (Ty.tuple ys) = ap Ty.tuple (types_mapped d ps ys)
  type_mapped d ps (Ty.nominal path ys) = ap (Ty.nominal path) (types_mapped d ps ys)
  type_mapped d ps (Ty.id n) = refl
  type_mapped d ps (Ty.of_symbol x) = refl
  type_mapped d ps (Ty.ref lifetime mutable y) = ap (Ty.ref lifetime mutable) (type_mapped d ps y)
  type_mapped d ps (Ty.opaque text) = refl

  types_mapped : (d : DefinedNames) (ps : List Text) (ys : Tys) → resolved_types d ps ys ≡ mapped_types (resolved_symbol d ps) ys
  types_mapped d ps Tys.none = refl
  types_mapped d ps (Tys.more y ys) =
      ap (λ z. Tys.more z (resolved_types d ps ys)) (type_mapped d ps y)
      ∙ ap (Tys.more (mapped_type (resolved_symbol d ps) y)) (types_mapped d ps ys)

declared_mapped : (d : DefinedNames) (ps : List Text) (o : Option Ty) →
    option_map (resolved_type d ps) o ≡ option_map (mapped_type (resolved_symbol d ps)) o
declared_mapped d ps None = refl
declared_mapped d ps (Some y) = ap Some (type_mapped d ps y)

types_kept : (finds : Text → Text → Option Bool) (g : Grammar) →
    KeepsDeclared (name_change (defined_names g)) (grammar_between finds g) (grammar_between finds (resolved_grammar g))
    (λ r. resolved_symbol (defined_names g) r.parameters)
types_kept finds g n r i = record {
  declared = declared_mapped (defined_names g) r.parameters r.declared;
  closed = λ args x. symbol_kept (name_change (defined_names g)) (grammar_between finds g) (grammar_between finds (resolved_grammar g))
      (rules_changed finds g) r (replacement (defined_names g) r.parameters) args (counts_alike finds g n r i args)
      (closes_alike finds g n r i args) x;
}

-- a grammar has the same expansion once its names are resolved, whatever is wrong with them
pub resolving_expansion : (finds : Text → Text → Option Bool) (g : Grammar) →
    SameExpansion (grammar_between finds g) (grammar_between finds (resolved_grammar g)) (λ x. x)
resolving_expansion finds g =
    changed_expansion (name_change (defined_names g)) (grammar_between finds g) (grammar_between finds (resolved_grammar g))
    (rules_changed finds g) (sides_kept finds g)

-- a grammar inlines the same nonterminals once its names are resolved
pub resolving_inlined : (finds : Text → Text → Option Bool) (g : Grammar) →
    SameInlined (grammar_between finds g) (grammar_between finds (resolved_grammar g)) (λ x. x)
resolving_inlined finds g x i =
    changed_inlined (name_change (defined_names g)) (grammar_between finds g) (grammar_between finds (resolved_grammar g))
    (rules_changed finds g) x

-- symbols have the same types once names are resolved
pub resolving_types : (finds : Text → Text → Option Bool) (g : Grammar) →
    SameTypes (grammar_between finds g) (grammar_between finds (resolved_grammar g)) (λ x. x)
resolving_types finds g =
    changed_types (name_change (defined_names g)) (grammar_between finds g) (grammar_between finds (resolved_grammar g))
    (rules_changed finds g) (sides_kept finds g) (λ r. resolved_symbol (defined_names g) r.parameters) (types_kept finds g)

-- chains of macro calls are the same once names are resolved
pub resolving_chains : (finds : Text → Text → Option Bool) (g : Grammar) (k : ℕ) (x : Closed) →
    HasCallChain (grammar_between finds g) k x ↔ HasCallChain (grammar_between finds (resolved_grammar g)) k x
resolving_chains finds g k x =
    changed_chains (name_change (defined_names g)) (grammar_between finds g) (grammar_between finds (resolved_grammar g))
    (rules_changed finds g) (sides_kept finds g) k x

-- names of the grammar with its names resolved are names of the written one
pub resolved_names : (finds : Text → Text → Option Bool) (g : Grammar) (prefix : Text) (name_of : Nonterminal → Text) →
    IsNaming (leveled_key_text (grammar_between finds (resolved_grammar g))) prefix (grammar_between finds (resolved_grammar g)) name_of →
    IsNaming (leveled_key_text (grammar_between finds g)) prefix (grammar_between finds g) name_of
resolved_names finds g prefix name_of a =
    changed_naming (name_change (defined_names g)) (grammar_between finds g) (grammar_between finds (resolved_grammar g))
    (rules_changed finds g) (sides_kept finds g) prefix name_of a

-- and so are names that are given by use
pub resolved_names_by_use : (finds : Text → Text → Option Bool) (g : Grammar) (prefix : Text) (name_of : Nonterminal → Text)
    → IsNamingByUse (leveled_key_text (grammar_between finds (resolved_grammar g))) prefix (grammar_between finds (resolved_grammar g))
    name_of → IsNamingByUse (leveled_key_text (grammar_between finds g)) prefix (grammar_between finds g) name_of
resolved_names_by_use finds g prefix name_of a =
    naming_before (name_change (defined_names g)) (grammar_between finds g) (grammar_between finds (resolved_grammar g))
    (rules_changed finds g) (sides_kept finds g) prefix name_of a

-- keys in order of first use in the grammar whose names are resolved are so in the grammar before
pub resolved_keys_by_use : (finds : Text → Text → Option Bool) (g : Grammar) (keys : List Closed)
    → IsListByUse (grammar_between finds (resolved_grammar g)) keys → IsListByUse (grammar_between finds g) keys
resolved_keys_by_use finds g keys a =
    list_before (name_change (defined_names g)) (grammar_between finds g) (grammar_between finds (resolved_grammar g))
    (rules_changed finds g) (sides_kept finds g) keys a
