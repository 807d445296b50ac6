-- Types of closed symbols by a table, and those of the written symbols that they come from; for equations of rules.
use Rattle.std.specs.Str.{bytes_eq}
use Rattle.std.specs.Prelude.{Option, Some, None, option_map, map, filter, if◌then◌else◌, ◌||◌}
use Rattle.std.specs.List.{list_any}
use Rattle.std.proofs.Common.{◌≡◌, ℕ, ◌+◌, List, [], ◌∷◌, refl, ap, ap₂, sym, ◌∙◌, subst, cond, Bool, true}
use Rattle.std.proofs.Common.{false, inl, inr}
use Rattle.lalrpop_grammar_symbols.specs.Symbols.{Text, Terminal, WrittenSymbol, Sym, Closed, Closeds}
use Rattle.lalrpop_grammar_language.specs.Among.{Among}
use Rattle.lalrpop_grammar_language.specs.Enabled.{EnabledGrammar, EnabledRule, has_name, has_text, rules_named}
use Rattle.lalrpop_grammar_language.specs.Levels.{loosest}
use Rattle.lalrpop_grammar_language.specs.Closing.{Binding, Scope, call_level, close, close_all, close_list, if_macro, if_plain}
use Rattle.lalrpop_grammar_language.specs.Closing.{are_sound, is_sound, name_meaning, name_meaning_in, name_or, names_owner}
use Rattle.lalrpop_grammar_language.specs.Closing.{occurrences, parameter_value, plain_call, plain_name, sound_or_faulty}
use Rattle.lalrpop_grammar_language.proofs.PlaceLemmas.{among_filter, same_text-eq}
use Rattle.lalrpop_grammar_rules.proofs.BareNameLemmas.{same_text-sym}
use Rattle.lalrpop_norm_theory.specs.Premises.{IsExpanded, IsExpandedSymbol}
use Rattle.lalrpop_norm_theory.specs.Types.{GroundType, chosen_or_all, is_chosen, text_type}
use Rattle.lalrpop_norm_theory.proofs.LevelLemmas.{no_loosest}
use Rattle.lalrpop_norm_tyinfer.specs.TypesByTable.{KnownNames, RuleTypes, chosen_symbols, is_chosen_symbol, name_ground_type}
use Rattle.lalrpop_norm_tyinfer.specs.TypesByTable.{symbol_ground_type}

-- the type of a closed symbol of an expanded grammar
abbrev pub closed_ground_type : RuleTypes → Closed → Option GroundType
closed_ground_type table (Closed.terminal (Terminal.quoted t)) = Some text_type
closed_ground_type table (Closed.terminal (Terminal.regex t)) = Some text_type
closed_ground_type table (Closed.terminal (Terminal.bare n)) = Some text_type
closed_ground_type table (Closed.terminal Terminal.error) = None
closed_ground_type table (Closed.call n Closeds.none None) = table n
closed_ground_type table (Closed.call n Closeds.none (Some l)) = None
closed_ground_type table (Closed.call n (Closeds.more x xs) level) = None
closed_ground_type table (Closed.repeat op x) = None
closed_ground_type table (Closed.group xs) = None
closed_ground_type table (Closed.choose x) = closed_ground_type table x
closed_ground_type table (Closed.name m n x) = closed_ground_type table x
closed_ground_type table Closed.lookahead = None
closed_ground_type table Closed.lookbehind = None
closed_ground_type table Closed.faulty = None

-- by the table of the rules' types the closed symbol has this type
abbrev pub HasGroundType : RuleTypes → Closed → GroundType → Type 0
HasGroundType table x t = closed_ground_type table x ≡ Some t

-- the names of a grammar's rules, and the mapped bare names
abbrev pub names_between : EnabledGrammar → KnownNames
names_between g = record { rules = map (λ r. r.name) g.rules; bares = g.bares }

or_true : (a b : Bool) → b ≡ true → (a || b) ≡ true
or_true true b e = refl
or_true false b e = e

named-none : (n : Text) (rs : List EnabledRule) → filter (has_name n) rs ≡ [] → has_text n (map (λ r. r.name) rs) ≡ false
named-none n [] e = refl
named-none n (r ∷ rs) e = go (has_name n r) refl e (λ k. named-none n rs k)
  where
    go : (b : Bool) → has_name n r ≡ b → cond b (r ∷ filter (has_name n) rs) (filter (has_name n) rs) ≡ []
        → (filter (has_name n) rs ≡ [] → has_text n (map (λ r. r.name) rs) ≡ false)
        → (bytes_eq n r.name || has_text n (map (λ r. r.name) rs)) ≡ false
    go true f e ih = cc
    go false f e ih = ap (λ b. b || has_text n (map (λ r. r.name) rs)) (same_text-sym n r.name ∙ f) ∙ ih e

pub named-some : (n : Text) (rs : List EnabledRule) (r : EnabledRule) → Among rs r → has_name n r ≡ true
    → has_text n (map (λ r. r.name) rs) ≡ true
named-some n [] r i h = absurd i
named-some n (s ∷ rs) r (inl e) h =
    ap (λ b. b || has_text n (map (λ r. r.name) rs)) (same_text-sym n s.name ∙ ap (has_name n) e ∙ h)
named-some n (s ∷ rs) r (inr i) h =
    or_true (bytes_eq n s.name) (has_text n (map (λ r. r.name) rs)) (named-some n rs r i h)

module _ (table : RuleTypes) where
  unsound-none : (b : Bool) (c : Closed) → closed_ground_type table c ≡ None
      → closed_ground_type table (if b then c else Closed.faulty) ≡ None
  unsound-none true c e = e
  unsound-none false c e = refl

  through_choice : (b : Bool) (c : Closed)
      → closed_ground_type table (if b then Closed.choose c else Closed.faulty)
      ≡ closed_ground_type table (if b then c else Closed.faulty)
  through_choice true c = refl
  through_choice false c = refl

  through_name : (b mutable : Bool) (n : Text) (c : Closed)
      → closed_ground_type table (if b then Closed.name mutable n c else Closed.faulty)
      ≡ closed_ground_type table (if b then c else Closed.faulty)
  through_name true mutable n c = refl
  through_name false mutable n c = refl

  bare_closed : (b : Bool) (n : Text)
      → closed_ground_type table (sound_or_faulty (if b then Closed.terminal (Terminal.bare n) else Closed.faulty))
      ≡ (if b then Some text_type else None)
  bare_closed true n = refl
  bare_closed false n = refl

-- where nothing is bound, and no occurrence has a level
abbrev pub flat_scope : EnabledGrammar → Binding → Text → (ℕ → Option ℕ) → Scope
flat_scope g b o level_at = record { grammar = g; binding = b; owner = o; level_at = level_at }

-- in an expanded grammar, where nothing is bound and no occurrence has a level
module _ (g : EnabledGrammar) (w : IsExpanded g) (table : RuleTypes) (b : Binding) (no_binding : b ≡ []) (o : Text)
    (level_at : ℕ → Option ℕ) (no_level : (i : ℕ) → level_at i ≡ None) where
  abbrev here : Scope
  here = flat_scope g b o level_at

  no_call_level : (i : ℕ) (n : Text) (r : EnabledRule) → Among g.rules r → call_level here i n r ≡ None
  no_call_level i n r a = go (bytes_eq n o)
    where
      go : (c : Bool) → (if c then level_at i else loosest r) ≡ None
      go true = no_level i
      go false = no_loosest r (w.no_levels r a)

  -- the only rule of its name
  rule_closed : (i : ℕ) (n : Text) (r : EnabledRule) → Among g.rules r
      → if_plain r.parameters (Closed.call n Closeds.none (call_level here i n r)) ≡ Closed.call n Closeds.none None
  rule_closed i n r a =
      ap (λ ps. if_plain ps (Closed.call n Closeds.none (call_level here i n r))) (w.no_macros r a)
      ∙ ap (λ l. Closed.call n Closeds.none l) (no_call_level i n r a)

  name_closed : (i : ℕ) (n : Text) → closed_ground_type table (sound_or_faulty (plain_name here i n (name_meaning g n)))
      ≡ name_ground_type (names_between g) table n
  name_closed i n = go (rules_named g n) (has_text n g.bares) refl
    where
      is_among : (r : EnabledRule) (rest : List EnabledRule) → rules_named g n ≡ r ∷ rest
          → Among g.rules r × (has_name n r ≡ true)
      is_among r rest e = among_filter (has_name n) g.rules r (subst (λ l. Among l r) (sym e) (inl refl))

      go : (rs : List EnabledRule) (c : Bool) → rules_named g n ≡ rs
          → closed_ground_type table (sound_or_faulty (plain_name here i n (name_meaning_in rs c)))
          ≡ (if has_text n (map (λ r. r.name) g.rules) then table n else (if c then Some text_type else None))
      go [] true e = sym (ap (λ (d : Bool). if d then table n else Some text_type) (named-none n g.rules e))
      go [] false e = sym (ap (λ (d : Bool). if d then table n else None) (named-none n g.rules e))
      go (r ∷ []) c e =
          let a = is_among r [] e in
          ap (λ x. closed_ground_type table (sound_or_faulty x)) (rule_closed i n r a.0)
          ∙ sym (ap (λ (d : Bool). if d then table n else (if c then Some text_type else None)) (named-some n g.rules r a.0 a.1))
      go (r ∷ s ∷ rs) c e =
          let a = is_among r (s ∷ rs) e in
          let once : rules_named g r.name ≡ r ∷ [] = w.rules r a.0 in
          let same : r.name ≡ n = same_text-eq r.name n a.1 in
          let twice : r ∷ [] ≡ r ∷ s ∷ rs = sym once ∙ ap (rules_named g) same ∙ e in
          absurd (let wrong : ⊥ = cc in wrong)

  call_closed : (i : ℕ) (n : Text) (args : Closeds)
      → closed_ground_type table (sound_or_faulty (plain_call here i n args (name_meaning g n))) ≡ None
  call_closed i n args = go (rules_named g n) (has_text n g.bares) refl
    where
      go : (rs : List EnabledRule) (c : Bool) → rules_named g n ≡ rs
          → closed_ground_type table (sound_or_faulty (plain_call here i n args (name_meaning_in rs c))) ≡ None
      go [] true e = refl
      go [] false e = refl
      go (r ∷ []) c e =
          let a = among_filter (has_name n) g.rules r (subst (λ l. Among l r) (sym e) (inl refl)) in
          ap (λ ps. closed_ground_type table (sound_or_faulty (if_macro ps args (Closed.call n args (call_level here i n r)))))
          (w.no_macros r a.0)
      go (r ∷ s ∷ rs) c e = refl

  -- a closed symbol has the type of the written one
  pub closed_of : (i : ℕ) (x : WrittenSymbol)
      → closed_ground_type table (sound_or_faulty (close here i x)) ≡ symbol_ground_type (names_between g) table x
  closed_of i (Sym.expr p xs) =
      unsound-none table (are_sound (close_all here i xs)) (Closed.group (close_all here i xs)) refl
  closed_of i (Sym.ambiguous_id p n) =
      ap (λ c. closed_ground_type table
      (sound_or_faulty (name_or (parameter_value c n) (plain_name here i n (name_meaning g n))))) no_binding
      ∙ name_closed i n
  closed_of i (Sym.nonterminal p n) = name_closed i n
  closed_of i (Sym.terminal p (Terminal.quoted t)) = refl
  closed_of i (Sym.terminal p (Terminal.regex t)) = refl
  closed_of i (Sym.terminal p (Terminal.bare n)) = bare_closed table (has_text n g.bares) n
  closed_of i (Sym.terminal p Terminal.error) = refl
  closed_of i (Sym.macro p n args) =
      let inside = close_all here (i + names_owner b o n) args in
      ap (λ c. closed_ground_type table
      (sound_or_faulty (name_or (option_map (λ d. Closed.faulty) (parameter_value c n))
      (plain_call here i n inside (name_meaning g n))))) no_binding
      ∙ call_closed i n inside
  closed_of i (Sym.repeat p op x) =
      unsound-none table (is_sound (close here i x)) (Closed.repeat op (close here i x)) refl
  closed_of i (Sym.choose p x) =
      through_choice table (is_sound (close here i x)) (close here i x) ∙ closed_of i x
  closed_of i (Sym.name p m n x) =
      through_name table (is_sound (close here i x)) m n (close here i x) ∙ closed_of i x
  closed_of i (Sym.lookahead p) = refl
  closed_of i (Sym.lookbehind p) = refl
  closed_of i (Sym.error p) = refl

  -- what an expanded symbol stands for
  pub expanded_closed : (i : ℕ) (p : ℕ × ℕ) (n : Text) (r : EnabledRule) → rules_named g n ≡ r ∷ []
      → close here i (Sym.nonterminal p n) ≡ Closed.call n Closeds.none None
  expanded_closed i p n r e =
      let a = among_filter (has_name n) g.rules r (subst (λ l. Among l r) (sym e) (inl refl)) in
      ap (λ rs. plain_name here i n (name_meaning_in rs (has_text n g.bares))) e ∙ rule_closed i n r a.0

  pub sound_of : (i : ℕ) (x : WrittenSymbol) → IsExpandedSymbol g x → is_sound (close here i x) ≡ true
  sound_of i (Sym.terminal p (Terminal.quoted t)) h = refl
  sound_of i (Sym.terminal p (Terminal.regex t)) h = refl
  sound_of i (Sym.terminal p (Terminal.bare n)) h =
      ap (λ (c : Bool). is_sound (if c then Closed.terminal (Terminal.bare n) else Closed.faulty)) h
  sound_of i (Sym.terminal p Terminal.error) h = absurd h
  sound_of i (Sym.nonterminal p n) h = ap is_sound (expanded_closed i p n h.0 h.1)
  sound_of i (Sym.choose p x) h = sound_of i x h
  sound_of i (Sym.name p m n x) h = sound_of i x h
  sound_of i (Sym.ambiguous_id p n) h = absurd h
  sound_of i (Sym.macro p n args) h = absurd h
  sound_of i (Sym.expr p xs) h = absurd h
  sound_of i (Sym.repeat p op x) h = absurd h
  sound_of i (Sym.lookahead p) h = absurd h
  sound_of i (Sym.lookbehind p) h = absurd h
  sound_of i (Sym.error p) h = absurd h

  chosen_closed : (i : ℕ) (x : WrittenSymbol) → IsExpandedSymbol g x → is_chosen (close here i x) ≡ is_chosen_symbol x
  chosen_closed i (Sym.terminal p (Terminal.quoted t)) h = refl
  chosen_closed i (Sym.terminal p (Terminal.regex t)) h = refl
  chosen_closed i (Sym.terminal p (Terminal.bare n)) h =
      ap (λ (c : Bool). is_chosen (if c then Closed.terminal (Terminal.bare n) else Closed.faulty)) h
  chosen_closed i (Sym.terminal p Terminal.error) h = absurd h
  chosen_closed i (Sym.nonterminal p n) h = ap is_chosen (expanded_closed i p n h.0 h.1)
  chosen_closed i (Sym.choose p x) h = refl
  chosen_closed i (Sym.name p m n x) h = refl
  chosen_closed i (Sym.ambiguous_id p n) h = absurd h
  chosen_closed i (Sym.macro p n args) h = absurd h
  chosen_closed i (Sym.expr p xs) h = absurd h
  chosen_closed i (Sym.repeat p op x) h = absurd h
  chosen_closed i (Sym.lookahead p) h = absurd h
  chosen_closed i (Sym.lookbehind p) h = absurd h
  chosen_closed i (Sym.error p) h = absurd h

  chosen_of : (i : ℕ) (x : WrittenSymbol) → IsExpandedSymbol g x
      → is_chosen (sound_or_faulty (close here i x)) ≡ is_chosen_symbol x
  chosen_of i x h =
      ap (λ (c : Bool). is_chosen (if c then close here i x else Closed.faulty)) (sound_of i x h) ∙ chosen_closed i x h

  any_chosen : (i : ℕ) (xs : List WrittenSymbol) → ((x : WrittenSymbol) → Among xs x → IsExpandedSymbol g x)
      → list_any is_chosen (close_list here i xs) ≡ list_any is_chosen_symbol xs
  any_chosen i [] h = refl
  any_chosen i (x ∷ xs) h =
      ap₂ ◌||◌ (chosen_of i x (h x (inl refl))) (any_chosen (i + occurrences b o x) xs (λ y a. h y (inr a)))

  chosen_types : (i : ℕ) (xs : List WrittenSymbol) → ((x : WrittenSymbol) → Among xs x → IsExpandedSymbol g x)
      → map (closed_ground_type table) (filter is_chosen (close_list here i xs))
      ≡ map (symbol_ground_type (names_between g) table) (filter is_chosen_symbol xs)
  chosen_types i [] h = refl
  chosen_types i (x ∷ xs) h =
      let y = sound_or_faulty (close here i x) in
      let ys = close_list here (i + occurrences b o x) xs in
      ap (λ (c : Bool). map (closed_ground_type table) (cond c (y ∷ filter is_chosen ys) (filter is_chosen ys)))
      (chosen_of i x (h x (inl refl)))
      ∙ go (is_chosen_symbol x) (chosen_types (i + occurrences b o x) xs (λ z a. h z (inr a)))
    where
      go : (c : Bool)
          → map (closed_ground_type table) (filter is_chosen (close_list here (i + occurrences b o x) xs))
          ≡ map (symbol_ground_type (names_between g) table) (filter is_chosen_symbol xs)
          → map (closed_ground_type table) (cond c
          (sound_or_faulty (close here i x) ∷ filter is_chosen (close_list here (i + occurrences b o x) xs))
          (filter is_chosen (close_list here (i + occurrences b o x) xs)))
          ≡ map (symbol_ground_type (names_between g) table) (cond c (x ∷ filter is_chosen_symbol xs) (filter is_chosen_symbol xs))
      go true ih = ap₂ ◌∷◌ (closed_of i x) ih
      go false ih = ih

  all_types : (i : ℕ) (xs : List WrittenSymbol)
      → map (closed_ground_type table) (close_list here i xs) ≡ map (symbol_ground_type (names_between g) table) xs
  all_types i [] = refl
  all_types i (x ∷ xs) = ap₂ ◌∷◌ (closed_of i x) (all_types (i + occurrences b o x) xs)

  -- the closed symbols that give an alternative its type have the types of the written ones
  pub alternative_types : (i : ℕ) (xs : List WrittenSymbol) → ((x : WrittenSymbol) → Among xs x → IsExpandedSymbol g x)
      → map (closed_ground_type table) (chosen_or_all (close_list here i xs))
      ≡ map (symbol_ground_type (names_between g) table) (chosen_symbols xs)
  alternative_types i xs h =
      let ys = close_list here i xs in
      ap (λ (c : Bool). map (closed_ground_type table) (cond c (filter is_chosen ys) ys)) (any_chosen i xs h)
      ∙ go (list_any is_chosen_symbol xs)
    where
      go : (c : Bool)
          → map (closed_ground_type table) (cond c (filter is_chosen (close_list here i xs)) (close_list here i xs))
          ≡ map (symbol_ground_type (names_between g) table) (cond c (filter is_chosen_symbol xs) xs)
      go true = chosen_types i xs h
      go false = all_types i xs
