-- A test of what types can be derived at most, with what it means; for the examples.
use Rattle.std.specs.Str.{bytes_eq}
use Rattle.std.proofs.Common.{◌≡◌, ℕ, zero, suc, List, [], ◌∷◌, ◌++◌, refl, ap, sym, ◌∙◌, subst, cond, Bool}
use Rattle.std.proofs.Common.{true, false, inl, inr}
use Rattle.std.specs.Prelude.{Option, Some, None, option_map, ◌&&◌, is_some, if◌then◌else◌}
use Rattle.std.specs.List.{list_all}
use Rattle.std.proofs.lemmas.Bool.{and_from, and_parts}
use Rattle.lalrpop_grammar_symbols.specs.Symbols.{Text, Terminal, Closed, Closeds, closed_list}
use Rattle.lalrpop_grammar.specs.WrittenGrammar.{Ty, Tys, Action}
use Rattle.lalrpop_grammar_language.specs.Among.{Among}
use Rattle.lalrpop_grammar_language.specs.Enabled.{EnabledGrammar, EnabledRule, Choice, rules_named}
use Rattle.lalrpop_grammar_language.specs.Levels.{Rank, ranked_choices, tighter, has_levels}
use Rattle.lalrpop_grammar_language.specs.Closing.{Scope, parameter_value, close, sound_or_faulty, right_side, inner}
use Rattle.lalrpop_grammar_language.specs.Admitting.{bind, rank_level}
use Rattle.lalrpop_grammar_language.specs.Expansion.{Nonterminal, InExpansion}
use Rattle.lalrpop_grammar_language.proofs.PlaceLemmas.{same_text-eq}
use Rattle.lalrpop_grammar_language.proofs.ComparisonLemmas.{same_bool, same_bool-eq, same_bool-refl}
use Rattle.lalrpop_norm_theory.specs.Types.{GroundType, GroundTypes, text_type, place_type, repeat_type, chosen_or_all, HaveTypes}
use Rattle.lalrpop_norm_theory.specs.Types.{HaveTupleType, IsTypeOfName, IsTypeOf, AreTypesOf, type_scope, CallStep, TypeStep}
use Rattle.lalrpop_norm_theory.specs.Types.{IsGroundedIn, IsGrounded}
use Rattle.lalrpop_grammar_language.proofs.StepLemmas.{among_right}
use Rattle.lalrpop_grammar_language.proofs.StepLemmas.{among_left}
use Rattle.lalrpop_norm_theory.proofs.ClosedComparisonLemmas.{same_level, same_level-refl, same_closed, all-each}
use Rattle.lalrpop_norm_theory.proofs.ProductionListLemmas.{fits}
use Rattle.lalrpop_grammar_language.proofs.CheckLemmas.{true-holds}
use Rattle.lalrpop_grammar_language.proofs.CheckLemmas.{holds}
use Rattle.lalrpop_norm_theory.proofs.ExpansionListLemmas.{is_all, all-of}
use Rattle.lalrpop_norm_theory.proofs.TypeLemmas.{step_wider}

-- types that are the same

abbrev same_lifetime : Option Text → Option Text → Bool
same_lifetime None None = true
same_lifetime (Some s) (Some t) = bytes_eq s t
same_lifetime _ _ = false

lifetime-eq : (a b : Option Text) → same_lifetime a b ≡ true → a ≡ b
lifetime-eq None None h = refl
lifetime-eq (Some s) (Some t) h = ap Some (same_text-eq s t h)
lifetime-eq None (Some t) h = cc
lifetime-eq (Some s) None h = cc

abbrev mutual
  same_type : GroundType → GroundType → Bool
  same_type (GroundType.tuple ts) (GroundType.tuple us) = same_types ts us
  same_type (GroundType.nominal p ts) (GroundType.nominal q us) = bytes_eq p q && same_types ts us
  same_type (GroundType.ref l a t) (GroundType.ref m b u) = same_lifetime l m && (same_bool a b && same_type t u)
  same_type (GroundType.opaque s) (GroundType.opaque t) = bytes_eq s t
  same_type _ _ = false

  same_types : GroundTypes → GroundTypes → Bool
  same_types GroundTypes.none GroundTypes.none = true
  same_types (GroundTypes.more t ts) (GroundTypes.more u us) = same_type t u && same_types ts us
  same_types _ _ = false

mutual
  type-eq : (a b : GroundType) → same_type a b ≡ true → a ≡ b
  type-eq (GroundType.tuple ts) (GroundType.tuple us) h = ap GroundType.tuple (types-eq ts us h)
  type-eq (GroundType.nominal p ts) (GroundType.nominal q us) h =
      let w = and_parts (bytes_eq p q) (same_types ts us) h in
      ap (λ x. GroundType.nominal x ts) (same_text-eq p q w.0) ∙ ap (λ x. GroundType.nominal q x) (types-eq ts us w.1)
  type-eq (GroundType.ref l a t) (GroundType.ref m b u) h =
      let w = and_parts (same_lifetime l m) (same_bool a b && same_type t u) h in
      let z = and_parts (same_bool a b) (same_type t u) w.1 in
      ap (λ x. GroundType.ref x a t) (lifetime-eq l m w.0) ∙ ap (λ x. GroundType.ref m x t) (same_bool-eq a b z.0)
      ∙ ap (λ x. GroundType.ref m b x) (type-eq t u z.1)
  type-eq (GroundType.opaque s) (GroundType.opaque t) h = ap GroundType.opaque (same_text-eq s t h)
  type-eq _ _ h = cc

  types-eq : (a b : GroundTypes) → same_types a b ≡ true → a ≡ b
  types-eq GroundTypes.none GroundTypes.none h = refl
  types-eq (GroundTypes.more t ts) (GroundTypes.more u us) h =
      let w = and_parts (same_type t u) (same_types ts us) h in
      ap (λ x. GroundTypes.more x ts) (type-eq t u w.0) ∙ ap (λ x. GroundTypes.more u x) (types-eq ts us w.1)
  types-eq GroundTypes.none (GroundTypes.more u us) h = cc
  types-eq (GroundTypes.more t ts) GroundTypes.none h = cc

-- types by a table of closed symbols, where names and choices are transparent

abbrev pub TypeTable : Type 0
TypeTable = List (Closed × GroundType)

abbrev type_in : TypeTable → Closed → Option GroundType
type_in [] x = None
type_in (p ∷ ps) x = if same_closed p.0 x then Some p.1 else type_in ps x

abbrev terminal_type : Terminal → Option GroundType
terminal_type (Terminal.quoted t) = Some text_type
terminal_type (Terminal.regex t) = Some text_type
terminal_type (Terminal.bare t) = Some text_type
terminal_type Terminal.error = None

abbrev inner_type : TypeTable → Closed → Option GroundType
inner_type table (Closed.terminal t) = terminal_type t
inner_type table (Closed.call n args level) = type_in table (Closed.call n args level)
inner_type table (Closed.repeat op x) = type_in table (Closed.repeat op x)
inner_type table (Closed.group xs) = type_in table (Closed.group xs)
inner_type table (Closed.choose x) = None
inner_type table (Closed.name m n x) = None
inner_type table Closed.lookahead = type_in table Closed.lookahead
inner_type table Closed.lookbehind = type_in table Closed.lookbehind
inner_type table Closed.faulty = None

-- the type that the table gives
abbrev pub table_type : TypeTable → Closed → Option GroundType
table_type table x = inner_type table (inner x)

abbrev HasTableType : TypeTable → Closed → GroundType → Type 0
HasTableType table x t = table_type table x ≡ Some t

-- the types that one step gives by the table

abbrev cons_type : Option GroundType → Option GroundTypes → Option GroundTypes
cons_type (Some t) (Some ts) = Some (GroundTypes.more t ts)
cons_type _ _ = None

abbrev types_by : TypeTable → List Closed → Option GroundTypes
types_by table [] = Some GroundTypes.none
types_by table (x ∷ xs) = cons_type (table_type table x) (types_by table xs)

abbrev tuple_by : TypeTable → List Closed → Option GroundType
tuple_by table [] = Some (GroundType.tuple GroundTypes.none)
tuple_by table (x ∷ []) = table_type table x
tuple_by table (x ∷ y ∷ xs) = option_map GroundType.tuple (types_by table (x ∷ y ∷ xs))

abbrev name_by : TypeTable → Text → Option Closed → Option GroundType
name_by table n (Some x) = table_type table x
name_by table n None = Some (GroundType.nominal n GroundTypes.none)

abbrev mutual
  written_by : TypeTable → Scope → Ty → Option GroundType
  written_by table s (Ty.tuple ys) = option_map GroundType.tuple (all_written_by table s ys)
  written_by table s (Ty.nominal path ys) = option_map (GroundType.nominal path) (all_written_by table s ys)
  written_by table s (Ty.id n) = name_by table n (parameter_value s.binding n)
  written_by table s (Ty.of_symbol w) = table_type table (sound_or_faulty (close s 0 w))
  written_by table s (Ty.ref lifetime mutable y) = option_map (GroundType.ref lifetime mutable) (written_by table s y)
  written_by table s (Ty.opaque text) = Some (GroundType.opaque text)

  all_written_by : TypeTable → Scope → Tys → Option GroundTypes
  all_written_by table s Tys.none = Some GroundTypes.none
  all_written_by table s (Tys.more y ys) = cons_type (written_by table s y) (all_written_by table s ys)

abbrev is_default : Action → Bool
is_default Action.default = true
is_default (Action.user t) = false
is_default (Action.fallible t) = false
is_default Action.lookahead = false
is_default Action.lookbehind = false

abbrev by_choices : EnabledGrammar → TypeTable → EnabledRule → Closeds → Option ℕ → List (Choice × Option Rank) →
    List (Option GroundType)
by_choices g table r args level [] = []
by_choices g table r args level (p ∷ ps) =
    if fits g r args level p && is_default p.0.action
    then tuple_by table (chosen_or_all (right_side g r (bind r args) p)) ∷ by_choices g table r args level ps
    else by_choices g table r args level ps

abbrev by_tighter : TypeTable → Text → Closeds → Option ℕ → List (Option GroundType)
by_tighter table n args None = []
by_tighter table n args (Some to) = table_type table (Closed.call n args (Some to)) ∷ []

abbrev next_level : EnabledRule → Option ℕ → Option ℕ
next_level r None = None
next_level r (Some from) = tighter r from

abbrev by_rule : EnabledGrammar → TypeTable → Text → Closeds → Option ℕ → EnabledRule → Option Ty → List (Option GroundType)
by_rule g table n args level r (Some written) = written_by table (type_scope g r args) written ∷ []
by_rule g table n args level r None =
    by_choices g table r args level (ranked_choices r) ++ by_tighter table n args (next_level r level)

abbrev by_rules : EnabledGrammar → TypeTable → Text → Closeds → Option ℕ → List EnabledRule → List (Option GroundType)
by_rules g table n args level [] = []
by_rules g table n args level (r ∷ rs) = by_rule g table n args level r r.declared

abbrev steps_by : EnabledGrammar → TypeTable → Closed → List (Option GroundType)
steps_by g table (Closed.call n args level) = by_rules g table n args level (rules_named g n)
steps_by g table (Closed.repeat op x) = option_map (repeat_type op) (table_type table x) ∷ []
steps_by g table (Closed.group xs) = tuple_by table (chosen_or_all (closed_list xs)) ∷ []
steps_by g table Closed.lookahead = Some place_type ∷ []
steps_by g table Closed.lookbehind = Some place_type ∷ []
steps_by g table (Closed.terminal t) = []
steps_by g table (Closed.choose x) = []
steps_by g table (Closed.name m n x) = []
steps_by g table Closed.faulty = []

abbrev is_or_none : Option GroundType → Option GroundType → Bool
is_or_none t None = true
is_or_none None (Some u) = false
is_or_none (Some t) (Some u) = same_type t u

abbrev agrees_at : EnabledGrammar → TypeTable → Nonterminal → Bool
agrees_at g table (Nonterminal.start n) = true
agrees_at g table (Nonterminal.closed x) = list_all (is_or_none (table_type table x)) (steps_by g table x)

-- whether each type that one step gives is the table's, for the nonterminals of the expansion
abbrev pub has_all_types : EnabledGrammar → TypeTable → List Nonterminal → Bool
has_all_types g table xs = is_all g xs && list_all (agrees_at g table) xs

-- what the test means

map-some : {A B : Type 0} (f : A → B) (o : Option A) (x : A) → o ≡ Some x → option_map f o ≡ Some (f x)
map-some f o x e = ap (option_map f) e

cons-some : (o : Option GroundType) (os : Option GroundTypes) (t : GroundType) (ts : GroundTypes) → o ≡ Some t → os ≡ Some ts →
    cons_type o os ≡ Some (GroundTypes.more t ts)
cons-some o os t ts e f = ap (λ x. cons_type x os) e ∙ ap (cons_type (Some t)) f

types-found : (table : TypeTable) (xs : List Closed) (ts : GroundTypes) → HaveTypes (HasTableType table) xs ts →
    types_by table xs ≡ Some ts
types-found table [] GroundTypes.none h = refl
types-found table [] (GroundTypes.more t ts) h = absurd h
types-found table (x ∷ xs) GroundTypes.none h = absurd h
types-found table (x ∷ xs) (GroundTypes.more t ts) h =
    cons-some (table_type table x) (types_by table xs) t ts h.0 (types-found table xs ts h.1)

tuple-found : (table : TypeTable) (xs : List Closed) (t : GroundType) → HaveTupleType (HasTableType table) xs t →
    tuple_by table xs ≡ Some t
tuple-found table [] t h = ap Some (sym h)
tuple-found table (x ∷ []) t h = h
tuple-found table (x ∷ y ∷ xs) t h =
    map-some GroundType.tuple (types_by table (x ∷ y ∷ xs)) h.0 (types-found table (x ∷ y ∷ xs) h.0 h.2) ∙ ap Some (sym h.1)

name-found : (table : TypeTable) (n : Text) (o : Option Closed) (t : GroundType) → IsTypeOfName (HasTableType table) n o t →
    name_by table n o ≡ Some t
name-found table n (Some x) t h = h
name-found table n None t h = ap Some (sym h)

mutual
  written-found : (table : TypeTable) (s : Scope) (y : Ty) (t : GroundType) → IsTypeOf (HasTableType table) s y t →
      written_by table s y ≡ Some t
  written-found table s (Ty.tuple ys) t h =
      map-some GroundType.tuple (all_written_by table s ys) h.0 (all-written-found table s ys h.0 h.2) ∙ ap Some (sym h.1)
  written-found table s (Ty.nominal path ys) t h =
      map-some (GroundType.nominal path) (all_written_by table s ys) h.0 (all-written-found table s ys h.0 h.2) ∙ ap Some (sym h.1)
  written-found table s (Ty.id n) t h = name-found table n (parameter_value s.binding n) t h
  written-found table s (Ty.of_symbol w) t h = h
  written-found table s (Ty.ref l m y) t h =
      map-some (GroundType.ref l m) (written_by table s y) h.0 (written-found table s y h.0 h.2) ∙ ap Some (sym h.1)
  written-found table s (Ty.opaque text) t h = ap Some (sym h)

  all-written-found : (table : TypeTable) (s : Scope) (ys : Tys) (ts : GroundTypes) → AreTypesOf (HasTableType table) s ys ts →
      all_written_by table s ys ≡ Some ts
  all-written-found table s Tys.none GroundTypes.none h = refl
  all-written-found table s Tys.none (GroundTypes.more t ts) h = absurd h
  all-written-found table s (Tys.more y ys) GroundTypes.none h = absurd h
  all-written-found table s (Tys.more y ys) (GroundTypes.more t ts) h =
      cons-some (written_by table s y) (all_written_by table s ys) t ts (written-found table s y t h.0)
      (all-written-found table s ys ts h.1)

choice-found : (g : EnabledGrammar) (table : TypeTable) (r : EnabledRule) (args : Closeds) (level : Option ℕ)
    (ps : List (Choice × Option Rank)) (p : Choice × Option Rank) → Among ps p →
    (fits g r args level p && is_default p.0.action) ≡ true →
    Among (by_choices g table r args level ps) (tuple_by table (chosen_or_all (right_side g r (bind r args) p)))
choice-found g table r args level [] p i h = absurd i
choice-found g table r args level (q ∷ ps) p (inl e) h =
    go (fits g r args level q && is_default q.0.action) (ap (λ x. fits g r args level x && is_default x.0.action) e ∙ h)
  where
    go : (b : Bool) → b ≡ true →
        Among (cond b (tuple_by table (chosen_or_all (right_side g r (bind r args) q)) ∷ by_choices g table r args level ps)
        (by_choices g table r args level ps)) (tuple_by table (chosen_or_all (right_side g r (bind r args) p)))
    go true k = inl (ap (λ x. tuple_by table (chosen_or_all (right_side g r (bind r args) x))) e)
    go false k = cc
choice-found g table r args level (q ∷ ps) p (inr i) h =
    go (fits g r args level q && is_default q.0.action) (choice-found g table r args level ps p i h)
  where
    go : (b : Bool) → Among (by_choices g table r args level ps) (tuple_by table (chosen_or_all (right_side g r (bind r args) p))) →
        Among (cond b (tuple_by table (chosen_or_all (right_side g r (bind r args) q)) ∷ by_choices g table r args level ps)
        (by_choices g table r args level ps)) (tuple_by table (chosen_or_all (right_side g r (bind r args) p)))
    go true k = inr k
    go false k = k

call-found : (g : EnabledGrammar) (table : TypeTable) (n : Text) (args : Closeds) (level : Option ℕ) (t : GroundType) →
    CallStep g (HasTableType table) n args level t → Among (by_rules g table n args level (rules_named g n)) (Some t)
call-found g table n args level t (inl h) =
    subst (λ rs. Among (by_rules g table n args level rs) (Some t)) (sym h.is_rule)
    (subst (λ d. Among (by_rule g table n args level h.rule d) (Some t)) (sym h.declared)
    (inl (written-found table (type_scope g h.rule args) h.written t h.type_is)))
call-found g table n args level t (inr (inl h)) =
    let p = h.choice in
    let r = h.rule in
    let fit : fits g r args level p ≡ true =
    and_from (same_bool (is_some p.1) (has_levels r)) (same_level (rank_level p.1) level && holds g (bind r args) p.0.condition)
    (ap (same_bool (is_some p.1)) (sym h.fits.leveled) ∙ same_bool-refl (is_some p.1))
    (and_from (same_level (rank_level p.1) level) (holds g (bind r args) p.0.condition)
    (ap (same_level (rank_level p.1)) (sym h.level_is) ∙ same_level-refl (rank_level p.1))
    (true-holds g (bind r args) p.0.condition h.fits.holds)) in
    let there = choice-found g table r args level (ranked_choices r) p h.fits.written
    (and_from (fits g r args level p) (is_default p.0.action) fit (ap is_default h.no_code)) in
    let typed = tuple-found table (chosen_or_all (right_side g r (bind r args) p)) t h.type_is in
    subst (λ rs. Among (by_rules g table n args level rs) (Some t)) (sym h.fits.rule)
    (subst (λ d. Among (by_rule g table n args level r d) (Some t)) (sym h.undeclared)
    (among_left (by_choices g table r args level (ranked_choices r)) (by_tighter table n args (next_level r level)) (Some t)
    (subst (Among (by_choices g table r args level (ranked_choices r))) typed there)))
call-found g table n args level t (inr (inr h)) =
    let r = h.rule in
    let to_is : next_level r level ≡ Some h.to = ap (next_level r) h.from_is ∙ h.to_is in
    subst (λ rs. Among (by_rules g table n args level rs) (Some t)) (sym h.is_rule)
    (subst (λ d. Among (by_rule g table n args level r d) (Some t)) (sym h.undeclared)
    (among_right (by_choices g table r args level (ranked_choices r)) (by_tighter table n args (next_level r level)) (Some t)
    (subst (λ l. Among (by_tighter table n args l) (Some t)) (sym to_is) (inl h.type_is))))

step-agrees : (g : EnabledGrammar) (table : TypeTable) (xs : List Nonterminal) → has_all_types g table xs ≡ true → (x : Closed) →
    InExpansion g (Nonterminal.closed x) → (t : GroundType) → Among (steps_by g table x) (Some t) → table_type table x ≡ Some t
step-agrees g table xs h x i t j =
    let w = and_parts (is_all g xs) (list_all (agrees_at g table) xs) h in
    let agrees = all-each (agrees_at g table) xs w.1 (Nonterminal.closed x) (all-of g xs w.0 (Nonterminal.closed x) i) in
    go (table_type table x) (all-each (is_or_none (table_type table x)) (steps_by g table x) agrees (Some t) j)
  where
    go : (o : Option GroundType) → is_or_none o (Some t) ≡ true → o ≡ Some t
    go None e = cc
    go (Some u) e = ap Some (type-eq u t e)

step-by-table : (g : EnabledGrammar) (table : TypeTable) (xs : List Nonterminal) → has_all_types g table xs ≡ true → (x : Closed)
    (t : GroundType) → TypeStep g (HasTableType table) x t → HasTableType table x t
step-by-table g table xs h (Closed.terminal (Terminal.quoted u)) t s = ap Some (sym s)
step-by-table g table xs h (Closed.terminal (Terminal.regex u)) t s = ap Some (sym s)
step-by-table g table xs h (Closed.terminal (Terminal.bare u)) t s = ap Some (sym s)
step-by-table g table xs h (Closed.terminal Terminal.error) t s = absurd s
step-by-table g table xs h (Closed.call n args level) t s =
    step-agrees g table xs h (Closed.call n args level) s.0 t (call-found g table n args level t s.1)
step-by-table g table xs h (Closed.repeat op x) t s =
    step-agrees g table xs h (Closed.repeat op x) s.0 t (inl (map-some (repeat_type op) (table_type table x) s.1 s.3 ∙ ap Some (sym s.2)))
step-by-table g table xs h (Closed.group ys) t s =
    step-agrees g table xs h (Closed.group ys) s.0 t (inl (tuple-found table (chosen_or_all (closed_list ys)) t s.1))
step-by-table g table xs h (Closed.choose x) t s = s
step-by-table g table xs h (Closed.name m n x) t s = s
step-by-table g table xs h Closed.lookahead t s = step-agrees g table xs h Closed.lookahead s.0 t (inl (ap Some (sym s.1)))
step-by-table g table xs h Closed.lookbehind t s = step-agrees g table xs h Closed.lookbehind s.0 t (inl (ap Some (sym s.1)))
step-by-table g table xs h Closed.faulty t s = absurd s

-- a grounded type is the table's, where the table has all types
pub type-in-table : (g : EnabledGrammar) (table : TypeTable) (xs : List Nonterminal) → has_all_types g table xs ≡ true → (x : Closed)
    (t : GroundType) → IsGrounded g x t → table_type table x ≡ Some t
type-in-table g table xs h x t d = go d.0 x t d.1
  where
    go : (k : ℕ) (x : Closed) (t : GroundType) → IsGroundedIn g k x t → HasTableType table x t
    go zero x t d = absurd d
    go (suc k) x t d =
        step-by-table g table xs h x t (step_wider g (IsGroundedIn g k) (HasTableType table) (λ y u e. go k y u e) x t d)
