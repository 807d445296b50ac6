-- What is left of a grammar that was read has the expansion of its enabled grammar; for dropping what is disabled.
use Rattle.std.specs.Str.{bytes_eq}
use Rattle.std.proofs.Common.{◌≡◌, ℕ, ◌+◌, List, [], ◌∷◌, refl, ap, sym, ◌∙◌, cond, Bool, true, false, inl, inr}
use Rattle.std.specs.Prelude.{Option, Some, None, ◌↔◌, option_map, map, filter, filter_map, not, codes, ◌||◌, if◌then◌else◌}
use Rattle.std.specs.List.{cons_option}
use Rattle.lalrpop_grammar_symbols.specs.Symbols.{Text, Sym, WrittenSymbol, TextSpan, Closed}
use Rattle.lalrpop_grammar.specs.WrittenGrammar.{Attr, attr_id, Alternative, Origin, WrittenItem, Grammar, rules_of, Ty}
use Rattle.lalrpop_grammar_language.specs.Among.{Among}
use Rattle.lalrpop_grammar_language.specs.Enabled.{EnabledGrammar, has_attr, is_active, at_places, enabled_grammar}
use Rattle.lalrpop_grammar_language.specs.Levels.{first_attr}
use Rattle.lalrpop_grammar_language.specs.Closing.{parameter_value, name_or, close, sound_or_faulty}
use Rattle.lalrpop_grammar_language.specs.Admitting.{bind}
use Rattle.lalrpop_grammar_language.proofs.PlaceLemmas.{same_text-eq}
use Rattle.lalrpop_norm_theory.specs.Between.{with_origins, name_in_origins, written_name, grammar_between, is_cfg, without_cfg}
use Rattle.lalrpop_norm_theory.specs.Between.{alternative_without_cfg, enabled_part, enabled_item, without_disabled}
use Rattle.lalrpop_norm_theory.specs.Premises.{IsReadItem, IsReadRule, IsReadGrammar}
use Rattle.lalrpop_norm_theory.specs.Same.{SameExpansion}
use Rattle.lalrpop_norm_theory.specs.Inlined.{SameInlined}
use Rattle.lalrpop_norm_theory.specs.Types.{SameTypes, type_scope}
use Rattle.lalrpop_norm_theory.specs.Depth.{HasCallChain}
use Rattle.lalrpop_norm_theory.specs.Keys.{leveled_key_text, IsNaming}
use Rattle.lalrpop_grammar_language.specs.Expansion.{Nonterminal}
use Rattle.lalrpop_norm_theory.proofs.NamingChangeLemmas.{changed_naming}
use Rattle.lalrpop_norm_theory.proofs.BetweenLemmas.{rules_left, bares_left}
use Rattle.lalrpop_norm_theory.proofs.RuleChangeLemmas.{RuleChange, changed_rule, KeepsRanks, HasChangedRules, KeepsSides}
use Rattle.lalrpop_norm_theory.proofs.RuleChangeLemmas.{changed_expansion, changed_inlined}
use Rattle.lalrpop_norm_theory.proofs.ClosedNameLemmas.{name_closed, side_kept, listed_stay, symbol_stays}
use Rattle.lalrpop_norm_theory.proofs.TypeChangeLemmas.{mapped_type, mapped_by_itself, KeepsDeclared, symbol_kept, changed_types}
use Rattle.lalrpop_norm_theory.proofs.TypeChangeLemmas.{changed_chains}
use Rattle.lalrpop_norm_theory.specs.NamesByUse.{IsNamingByUse}
use Rattle.lalrpop_norm_theory.specs.UsedKeys.{IsListByUse}
use Rattle.lalrpop_norm_theory.proofs.UseChangeLemmas.{list_before, naming_before}

-- ranks aren't asked of cfg attributes

pub is_other : (id : Text) → bytes_eq (codes "cfg") id ≡ false → (a : Attr) → is_cfg a ≡ true → bytes_eq (attr_id a) id ≡ false
is_other id o a e = ap (λ t. bytes_eq t id) (same_text-eq (attr_id a) (codes "cfg") e) ∙ o

pub mark_kept : (id : Text) → bytes_eq (codes "cfg") id ≡ false → (l : List Attr) → has_attr id (without_cfg l) ≡ has_attr id l
mark_kept id o [] = refl
mark_kept id o (a ∷ rest) = go (is_cfg a) refl (mark_kept id o rest)
  where
    go : (b : Bool) → is_cfg a ≡ b → has_attr id (without_cfg rest) ≡ has_attr id rest →
        has_attr id (cond (not b) (a ∷ without_cfg rest) (without_cfg rest)) ≡ (bytes_eq (attr_id a) id || has_attr id rest)
    go true e h = h ∙ ap (λ (m : Bool). m || has_attr id rest) (sym (is_other id o a e))
    go false e h = ap (λ (m : Bool). bytes_eq (attr_id a) id || m) h

pub first_kept : (id : Text) → bytes_eq (codes "cfg") id ≡ false → (l : List Attr) → first_attr id (without_cfg l) ≡ first_attr id l
first_kept id o [] = refl
first_kept id o (a ∷ rest) = go (is_cfg a) refl (first_kept id o rest)
  where
    go : (b : Bool) → is_cfg a ≡ b → first_attr id (without_cfg rest) ≡ first_attr id rest →
        first_attr id (cond (not b) (a ∷ without_cfg rest) (without_cfg rest))
        ≡ (if bytes_eq (attr_id a) id then Some a else first_attr id rest)
    go true e h = h ∙ ap (λ (m : Bool). if m then Some a else first_attr id rest) (sym (is_other id o a e))
    go false e h = ap (λ (m : Option Attr). if bytes_eq (attr_id a) id then Some a else m) h

pub keeps_ranks : KeepsRanks without_cfg
keeps_ranks = record {
  marks = mark_kept (codes "precedence") refl;
  level = first_kept (codes "precedence") refl;
  side = first_kept (codes "assoc") refl;
}

-- each rule that is left is told by its own name

abbrev first_origin : List (Origin × Alternative) → Origin
first_origin [] = Origin.start
first_origin (p ∷ ps) = p.0

abbrev later_origins : List (Origin × Alternative) → List (Origin × Alternative)
later_origins [] = []
later_origins (p ∷ ps) = ps

-- the origins that the enabled alternatives tell
abbrev pub left_origins : List Text → List Alternative → List Origin
left_origins features alternatives =
    map (λ a. a.origin) (map alternative_without_cfg (filter (λ a. is_active features a.attributes) alternatives))

pub own_name : (features : List Text) (m n : Text) (k : ℕ) (alternatives : List Alternative) →
    with_origins alternatives ≡ at_places m k alternatives → m ≡ n → name_in_origins n (left_origins features alternatives) ≡ n
own_name features m n k [] e same = refl
own_name features m n k (a ∷ rest) e same =
    go (is_active features a.attributes) (own_name features m n (k + 1) rest (ap later_origins e) same)
  where
    active : List Alternative
    active = filter (λ b. is_active features b.attributes) rest

    go : (b : Bool) → name_in_origins n (map (λ c. c.origin) (map alternative_without_cfg active)) ≡ n →
        name_in_origins n (map (λ c. c.origin) (map alternative_without_cfg (cond b (a ∷ active) active))) ≡ n
    go true h =
        ap (λ (o : Origin). name_in_origins n (o ∷ map (λ c. c.origin) (map alternative_without_cfg active))) (ap first_origin e)
        ∙ same
    go false h = h

pub name_left : (features : List Text) (items : List WrittenItem) → ((i : WrittenItem) → Among items i → IsReadItem i) → (n : Text) →
    written_name (rules_of (filter_map (enabled_item features) items)) n ≡ n
name_left features [] w n = refl
name_left features (WrittenItem.match_token entries place ∷ items) w n = name_left features items (λ i h. w i (inr h)) n
name_left features (WrittenItem.extern_token block ∷ items) w n = name_left features items (λ i h. w i (inr h)) n
name_left features (WrittenItem.intern_token entries ∷ items) w n = name_left features items (λ i h. w i (inr h)) n
name_left features (WrittenItem.import text ∷ items) w n = name_left features items (λ i h. w i (inr h)) n
name_left features (WrittenItem.nonterminal r ∷ items) w n =
    go (is_active features r.attributes) (w (WrittenItem.nonterminal r) (inl refl)) (name_left features items (λ i h. w i (inr h)) n)
  where
    others : List WrittenItem
    others = filter_map (enabled_item features) items

    of_name : (b : Bool) → bytes_eq r.name n ≡ b → IsReadRule r → written_name (rules_of others) n ≡ n →
        cond b (name_in_origins n (left_origins features r.alternatives)) (written_name (rules_of others) n) ≡ n
    of_name true e read h = own_name features r.name n 0 r.alternatives read.places (same_text-eq r.name n e)
    of_name false e read h = h

    go : (b : Bool) → IsReadRule r → written_name (rules_of others) n ≡ n →
        written_name (rules_of (cons_option (cond b (Some (WrittenItem.nonterminal (enabled_part features r))) None) others)) n ≡ n
    go true read h = of_name (bytes_eq r.name n) refl read h
    go false read h = h

-- the expansion

abbrev cfg_change : RuleChange
cfg_change = record { declared = λ r. r.declared; expr = λ r c. c.expr; attributes = without_cfg }

rules_changed : (finds : Text → Text → Option Bool) (features : List Text) (g : Grammar) → IsReadGrammar g →
    HasChangedRules cfg_change (enabled_grammar finds features g) (grammar_between finds (without_disabled features g))
rules_changed finds features g w = record {
  rules = rules_left features g.items w.items;
  bares = bares_left features g.items;
  finds = refl;
  spelled = λ i n. name_left features g.items w.items n i;
  ranks = keeps_ranks;
}

abbrev name_itself : TextSpan → Text → WrittenSymbol
name_itself p n = Sym.ambiguous_id p n

sides_kept : (g h : EnabledGrammar) → HasChangedRules cfg_change g h → KeepsSides cfg_change g h
sides_kept g h k n r i args p =
    side_kept cfg_change g h k r name_itself (λ c. sym (listed_stay name_itself c.expr (λ q m j. refl))) (bind r args) (λ q m. refl)
    (λ e j q m. ap (name_or (parameter_value (bind r args) m)) (name_closed cfg_change g h k (bind r args) r.name e j m)) p

-- what is left of a grammar that was read has the expansion of its enabled grammar
pub dropping_expansion : (finds : Text → Text → Option Bool) (features : List Text) (g : Grammar) → IsReadGrammar g →
    SameExpansion (enabled_grammar finds features g) (grammar_between finds (without_disabled features g)) (λ x. x)
dropping_expansion finds features g w =
    let k = rules_changed finds features g w in
    changed_expansion cfg_change (enabled_grammar finds features g) (grammar_between finds (without_disabled features g)) k
    (sides_kept (enabled_grammar finds features g) (grammar_between finds (without_disabled features g)) k)

-- what is left of a grammar that was read inlines the nonterminals that its enabled grammar inlines
pub dropping_inlined : (finds : Text → Text → Option Bool) (features : List Text) (g : Grammar) → IsReadGrammar g →
    SameInlined (enabled_grammar finds features g) (grammar_between finds (without_disabled features g)) (λ x. x)
dropping_inlined finds features g w x i =
    changed_inlined cfg_change (enabled_grammar finds features g) (grammar_between finds (without_disabled features g))
    (rules_changed finds features g w) x

types_kept : (g h : EnabledGrammar) → HasChangedRules cfg_change g h → KeepsDeclared cfg_change g h (λ r x. x)
types_kept g h k n r i = record {
  declared = all_mapped r.declared;
  closed = λ args x. ap (λ y. sound_or_faulty (close (type_scope h (changed_rule cfg_change r) args) 0 y))
      (sym (symbol_stays name_itself x (λ q m j. refl)))
      ∙ symbol_kept cfg_change g h k r name_itself args (λ q m. refl)
      (λ e j q m. ap (name_or (parameter_value (bind r args) m)) (name_closed cfg_change g h k (bind r args) r.name e j m)) x;
}
  where
    all_mapped : (o : Option Ty) → o ≡ option_map (mapped_type (λ x. x)) o
    all_mapped None = refl
    all_mapped (Some y) = ap Some (sym (mapped_by_itself y))

-- symbols have the same types in what is left of a grammar that was read as in its enabled grammar
pub dropping_types : (finds : Text → Text → Option Bool) (features : List Text) (g : Grammar) → IsReadGrammar g →
    SameTypes (enabled_grammar finds features g) (grammar_between finds (without_disabled features g)) (λ x. x)
dropping_types finds features g w =
    let k = rules_changed finds features g w in
    changed_types cfg_change (enabled_grammar finds features g) (grammar_between finds (without_disabled features g)) k
    (sides_kept (enabled_grammar finds features g) (grammar_between finds (without_disabled features g)) k) (λ r x. x)
    (types_kept (enabled_grammar finds features g) (grammar_between finds (without_disabled features g)) k)

-- chains of macro calls are the same in what is left of a grammar that was read as in its enabled grammar
pub dropping_chains : (finds : Text → Text → Option Bool) (features : List Text) (g : Grammar) → IsReadGrammar g →
    (k : ℕ) (x : Closed) →
    HasCallChain (enabled_grammar finds features g) k x ↔ HasCallChain (grammar_between finds (without_disabled features g)) k x
dropping_chains finds features g w n x =
    let k = rules_changed finds features g w in
    changed_chains cfg_change (enabled_grammar finds features g) (grammar_between finds (without_disabled features g)) k
    (sides_kept (enabled_grammar finds features g) (grammar_between finds (without_disabled features g)) k) n x

-- names of what is left of a grammar that was read are names of its enabled grammar
pub dropped_names : (finds : Text → Text → Option Bool) (features : List Text) (g : Grammar) (prefix : Text)
    (name_of : Nonterminal → Text) → IsReadGrammar g →
    IsNaming (leveled_key_text (grammar_between finds (without_disabled features g))) prefix
    (grammar_between finds (without_disabled features g)) name_of →
    IsNaming (leveled_key_text (enabled_grammar finds features g)) prefix (enabled_grammar finds features g) name_of
dropped_names finds features g prefix name_of w a =
    let k = rules_changed finds features g w in
    changed_naming cfg_change (enabled_grammar finds features g) (grammar_between finds (without_disabled features g)) k
    (sides_kept (enabled_grammar finds features g) (grammar_between finds (without_disabled features g)) k) prefix name_of a

-- and so are names that are given by use
pub dropped_names_by_use : (finds : Text → Text → Option Bool) (features : List Text) (g : Grammar) (prefix : Text)
    (name_of : Nonterminal → Text) → IsReadGrammar g
    → IsNamingByUse (leveled_key_text (grammar_between finds (without_disabled features g))) prefix
    (grammar_between finds (without_disabled features g)) name_of
    → IsNamingByUse (leveled_key_text (enabled_grammar finds features g)) prefix (enabled_grammar finds features g) name_of
dropped_names_by_use finds features g prefix name_of w a =
    let k = rules_changed finds features g w in
    naming_before cfg_change (enabled_grammar finds features g) (grammar_between finds (without_disabled features g)) k
    (sides_kept (enabled_grammar finds features g) (grammar_between finds (without_disabled features g)) k) prefix name_of a

-- keys in order of first use in what is left of a grammar that was read are so in its enabled grammar
pub dropped_keys_by_use : (finds : Text → Text → Option Bool) (features : List Text) (g : Grammar) (keys : List Closed) → IsReadGrammar g
    → IsListByUse (grammar_between finds (without_disabled features g)) keys → IsListByUse (enabled_grammar finds features g) keys
dropped_keys_by_use finds features g keys w a =
    let k = rules_changed finds features g w in
    list_before cfg_change (enabled_grammar finds features g) (grammar_between finds (without_disabled features g)) k
    (sides_kept (enabled_grammar finds features g) (grammar_between finds (without_disabled features g)) k) keys a
