-- Grammars whose rules differ by declared types, symbols and attributes alone have the same types, where the symbols of declared types
-- close alike, and the same chains of calls; for dropping and resolving.
use Rattle.std.proofs.Common.{◌≡◌, ℕ, zero, suc, refl, ap, sym, ◌∙◌, subst, inl, inr}
use Rattle.std.specs.Prelude.{Option, Some, None, option_map, ◌↔◌}
use Rattle.lalrpop_grammar_symbols.specs.Symbols.{Text, TextSpan, Terminal, WrittenSymbol, Closed, Closeds}
use Rattle.lalrpop_grammar_symbols.specs.SymbolMaps.{map_symbol}
use Rattle.lalrpop_grammar.specs.WrittenGrammar.{Ty, Tys}
use Rattle.lalrpop_grammar_language.specs.Among.{Among}
use Rattle.lalrpop_grammar_language.specs.Enabled.{EnabledGrammar, EnabledRule, Choice, IsRule}
use Rattle.lalrpop_grammar_language.specs.Levels.{Rank, loosest, tighter, ranked_choices}
use Rattle.lalrpop_grammar_language.specs.Closing.{Scope, close, sound_or_faulty, right_side}
use Rattle.lalrpop_grammar_language.specs.Admitting.{bind, Fits, rank_level}
use Rattle.lalrpop_grammar_language.specs.Expansion.{Nonterminal, InExpansion}
use Rattle.lalrpop_grammar_language.proofs.PlaceLemmas.{among_map}
use Rattle.lalrpop_norm_theory.specs.Depth.{CallOccursIn, HasCallChain}
use Rattle.lalrpop_norm_theory.specs.Same.{SameExpansion}
use Rattle.lalrpop_norm_theory.specs.Types.{GroundType, GroundTypes, chosen_or_all, HaveTupleType, IsTypeOf, AreTypesOf, type_scope}
use Rattle.lalrpop_norm_theory.specs.Types.{ByDefault, CallStep, TypeStep, IsGroundedIn, SameTypes}
use Rattle.lalrpop_norm_theory.proofs.TypeLemmas.{step_wider}
use Rattle.lalrpop_norm_theory.proofs.RuleChangeLemmas.{RuleChange, changed_rule, changed_pair, HasChangedRules, KeepsSides}
use Rattle.lalrpop_norm_theory.proofs.RuleChangeLemmas.{ranked_kept, loosest_kept, tighter_kept, rule_after, rule_before, fits_after}
use Rattle.lalrpop_norm_theory.proofs.RuleChangeLemmas.{fits_before, produces_after, produces_before, root_after, root_before}
use Rattle.lalrpop_norm_theory.proofs.RuleChangeLemmas.{changed_expansion}
use Rattle.lalrpop_norm_theory.proofs.ClosedNameLemmas.{with_names, scope_in, CountsAlike, ClosesAlike, close_kept}

-- a written type with its symbols replaced

abbrev mutual
  pub mapped_type : (WrittenSymbol → WrittenSymbol) → Ty → Ty
  mapped_type m (Ty.tuple ys) = Ty.tuple (mapped_types m ys)
  mapped_type m (Ty.nominal path ys) = Ty.nominal path (mapped_types m ys)
  mapped_type m (Ty.id n) = Ty.id n
  mapped_type m (Ty.of_symbol x) = Ty.of_symbol (m x)
  mapped_type m (Ty.ref lifetime mutable y) = Ty.ref lifetime mutable (mapped_type m y)
  mapped_type m (Ty.opaque text) = Ty.opaque text

  pub mapped_types : (WrittenSymbol → WrittenSymbol) → Tys → Tys
  mapped_types m Tys.none = Tys.none
  mapped_types m (Tys.more y ys) = Tys.more (mapped_type m y) (mapped_types m ys)

mutual
  pub mapped_by_itself : (y : Ty) → mapped_type (λ x. x) y ≡ y
  mapped_by_itself (Ty.tuple ys) = ap Ty.tuple (all_by_themselves ys)
  mapped_by_itself (Ty.nominal path ys) = ap (Ty.nominal path) (all_by_themselves ys)
  mapped_by_itself (Ty.id n) = refl
  mapped_by_itself (Ty.of_symbol x) = refl
  mapped_by_itself (Ty.ref lifetime mutable y) = ap (Ty.ref lifetime mutable) (mapped_by_itself y)
  mapped_by_itself (Ty.opaque text) = refl

  all_by_themselves : (ys : Tys) → mapped_types (λ x. x) ys ≡ ys
  all_by_themselves Tys.none = refl
  all_by_themselves (Tys.more y ys) =
      ap (λ z. Tys.more z (mapped_types (λ x. x) ys)) (mapped_by_itself y) ∙ ap (Tys.more y) (all_by_themselves ys)

-- where replaced symbols close alike, it means the same

abbrev Typing : Type 1
Typing = Closed → GroundType → Type 0

abbrev CloseAlike : (WrittenSymbol → WrittenSymbol) → Scope → Scope → Type 0
CloseAlike m s t = (x : WrittenSymbol) → sound_or_faulty (close t 0 (m x)) ≡ sound_or_faulty (close s 0 x)

mutual
  type_after : (m : WrittenSymbol → WrittenSymbol) (P : Typing) (s t : Scope) → t.binding ≡ s.binding → CloseAlike m s t →
      (y : Ty)
      (u : GroundType) → IsTypeOf P s y u → IsTypeOf P t (mapped_type m y) u
  type_after m P s t b c (Ty.tuple ys) u h = (h.0, h.1, types_after m P s t b c ys h.0 h.2)
  type_after m P s t b c (Ty.nominal path ys) u h = (h.0, h.1, types_after m P s t b c ys h.0 h.2)
  type_after m P s t b c (Ty.id n) u h = subst (λ a. IsTypeOf P (record t { binding = a }) (Ty.id n) u) (sym b) h
  type_after m P s t b c (Ty.of_symbol x) u h = subst (λ z. P z u) (sym (c x)) h
  type_after m P s t b c (Ty.ref lifetime mutable y) u h = (h.0, h.1, type_after m P s t b c y h.0 h.2)
  type_after m P s t b c (Ty.opaque text) u h = h

  types_after : (m : WrittenSymbol → WrittenSymbol) (P : Typing) (s t : Scope) → t.binding ≡ s.binding → CloseAlike m s t →
      (ys : Tys)
      (us : GroundTypes) → AreTypesOf P s ys us → AreTypesOf P t (mapped_types m ys) us
  types_after m P s t b c Tys.none GroundTypes.none h = tt
  types_after m P s t b c Tys.none (GroundTypes.more u us) h = absurd h
  types_after m P s t b c (Tys.more y ys) GroundTypes.none h = absurd h
  types_after m P s t b c (Tys.more y ys) (GroundTypes.more u us) h =
      (type_after m P s t b c y u h.0, types_after m P s t b c ys us h.1)

mutual
  type_before : (m : WrittenSymbol → WrittenSymbol) (P : Typing) (s t : Scope) → t.binding ≡ s.binding → CloseAlike m s t →
      (y : Ty)
      (u : GroundType) → IsTypeOf P t (mapped_type m y) u → IsTypeOf P s y u
  type_before m P s t b c (Ty.tuple ys) u h = (h.0, h.1, types_before m P s t b c ys h.0 h.2)
  type_before m P s t b c (Ty.nominal path ys) u h = (h.0, h.1, types_before m P s t b c ys h.0 h.2)
  type_before m P s t b c (Ty.id n) u h = subst (λ a. IsTypeOf P (record t { binding = a }) (Ty.id n) u) b h
  type_before m P s t b c (Ty.of_symbol x) u h = subst (λ z. P z u) (c x) h
  type_before m P s t b c (Ty.ref lifetime mutable y) u h = (h.0, h.1, type_before m P s t b c y h.0 h.2)
  type_before m P s t b c (Ty.opaque text) u h = h

  types_before : (m : WrittenSymbol → WrittenSymbol) (P : Typing) (s t : Scope) → t.binding ≡ s.binding → CloseAlike m s t →
      (ys : Tys)
      (us : GroundTypes) → AreTypesOf P t (mapped_types m ys) us → AreTypesOf P s ys us
  types_before m P s t b c Tys.none GroundTypes.none h = tt
  types_before m P s t b c Tys.none (GroundTypes.more u us) h = absurd h
  types_before m P s t b c (Tys.more y ys) GroundTypes.none h = absurd h
  types_before m P s t b c (Tys.more y ys) (GroundTypes.more u us) h =
      (type_before m P s t b c y u h.0, types_before m P s t b c ys us h.1)

-- declared types

-- the rule declares the type with its symbols replaced, and these close alike
pub record DeclaresAlike (w : RuleChange) (g h : EnabledGrammar) (r : EnabledRule) (m : WrittenSymbol → WrittenSymbol) : Type 0 where
  pub declared : w.declared r ≡ option_map (mapped_type m) r.declared
  pub closed : (args : Closeds) → CloseAlike m (type_scope g r args) (type_scope h (changed_rule w r) args)

-- each rule declares its type with the symbols replaced, and these close as they did
abbrev pub KeepsDeclared : RuleChange → EnabledGrammar → EnabledGrammar → (EnabledRule → WrittenSymbol → WrittenSymbol) → Type 0
KeepsDeclared w g h m = (n : Text) (r : EnabledRule) → IsRule g n r → DeclaresAlike w g h r (m r)

-- names that are replaced by what closes so close so in a declared type
pub symbol_kept : (w : RuleChange) (g h : EnabledGrammar) → HasChangedRules w g h → (r : EnabledRule)
    (f : TextSpan → Text → WrittenSymbol) (args : Closeds) → CountsAlike f (bind r args) r.name →
    ClosesAlike f g h (bind r args) r.name → (x : WrittenSymbol) →
    sound_or_faulty (close (type_scope h (changed_rule w r) args) 0 (map_symbol (with_names f) x))
    ≡ sound_or_faulty (close (type_scope g r args) 0 x)
symbol_kept w g h k r f args c a x =
    ap (λ l. sound_or_faulty (close (scope_in h (bind r args) r.name (λ j. l)) 0 (map_symbol (with_names f) x)))
    (loosest_kept w k.ranks r)
    ∙ ap sound_or_faulty (close_kept w g h k f (bind r args) r.name c a (λ j. loosest r) 0 x)

declared_after : (m : WrittenSymbol → WrittenSymbol) (o : Option Ty) (y : Ty) → o ≡ Some y →
    option_map (mapped_type m) o ≡ Some (mapped_type m y)
declared_after m o y e = ap (option_map (mapped_type m)) e

declared_before : (m : WrittenSymbol → WrittenSymbol) (o : Option Ty) (z : Ty) → option_map (mapped_type m) o ≡ Some z →
    (y : Ty) × (o ≡ Some y) × (mapped_type m y ≡ z)
declared_before m None z e = cc
declared_before m (Some y) z e = let same : mapped_type m y ≡ z = cc in (y, refl, same)

undeclared_before : (m : WrittenSymbol → WrittenSymbol) (o : Option Ty) → option_map (mapped_type m) o ≡ None → o ≡ None
undeclared_before m None e = refl
undeclared_before m (Some y) e = cc

-- steps

call_after : (w : RuleChange) (g h : EnabledGrammar) → HasChangedRules w g h → KeepsSides w g h →
    (m : EnabledRule → WrittenSymbol → WrittenSymbol) → KeepsDeclared w g h m → (P : Typing) (n : Text) (args : Closeds)
    (level : Option ℕ) (t : GroundType) → CallStep g P n args level t → CallStep h P n args level t
call_after w g h k s m d P n args level t (inl c) =
    let alike = d n c.rule c.is_rule in
    inl (record {
      rule = changed_rule w c.rule;
      is_rule = rule_after w g h k n c.rule c.is_rule;
      written = mapped_type (m c.rule) c.written;
      declared = alike.declared ∙ declared_after (m c.rule) c.rule.declared c.written c.declared;
      type_is = type_after (m c.rule) P (type_scope g c.rule args) (type_scope h (changed_rule w c.rule) args) refl
          (alike.closed args) c.written t c.type_is;
    })
call_after w g h k s m d P n args level t (inr (inl c)) =
    let alike = d n c.rule c.fits.rule in
    inr (inl (record {
      rule = changed_rule w c.rule;
      choice = changed_pair w c.rule c.choice;
      fits = fits_after w g h k n args c.rule c.choice c.fits;
      undeclared = alike.declared ∙ ap (option_map (mapped_type (m c.rule))) c.undeclared;
      level_is = c.level_is;
      no_code = c.no_code;
      type_is = subst (λ l. HaveTupleType P (chosen_or_all l) t) (sym (s n c.rule c.fits.rule args c.choice)) c.type_is;
    }))
call_after w g h k s m d P n args level t (inr (inr c)) =
    let alike = d n c.rule c.is_rule in
    inr (inr (record {
      rule = changed_rule w c.rule;
      is_rule = rule_after w g h k n c.rule c.is_rule;
      undeclared = alike.declared ∙ ap (option_map (mapped_type (m c.rule))) c.undeclared;
      from = c.from;
      to = c.to;
      from_is = c.from_is;
      to_is = tighter_kept w k.ranks c.rule c.from ∙ c.to_is;
      type_is = c.type_is;
    }))

default_before : (w : RuleChange) (g h : EnabledGrammar) → HasChangedRules w g h → KeepsSides w g h →
    (m : EnabledRule → WrittenSymbol → WrittenSymbol) → KeepsDeclared w g h m → (P : Typing) (n : Text) (args : Closeds)
    (level : Option ℕ) (t : GroundType) (c : ByDefault P h n args level t) (r : EnabledRule) → IsRule g n r → changed_rule w r
    ≡ c.rule →
    (p : Choice × Option Rank) → Among (ranked_choices r) p → changed_pair w r p ≡ c.choice → CallStep g P n args level t
default_before w g h k s m d P n args level t c r i e p j same =
    let alike = d n r i in
    let fits : Fits h n args (changed_rule w r) (changed_pair w r p) =
    subst (λ q. Fits h n args (changed_rule w r) q) (sym same) (subst (λ q. Fits h n args q c.choice) (sym e) c.fits) in
    let typed : HaveTupleType P (chosen_or_all (right_side h (changed_rule w r) (bind r args) (changed_pair w r p))) t =
    subst (λ q. HaveTupleType P (chosen_or_all (right_side h (changed_rule w r) (bind r args) q)) t) (sym same)
    (subst (λ q. HaveTupleType P (chosen_or_all (right_side h q (bind q args) c.choice)) t) (sym e) c.type_is) in
    inr (inl (record {
      rule = r;
      choice = p;
      fits = fits_before w g h k n args r p i j fits;
      undeclared = undeclared_before (m r) r.declared (sym alike.declared ∙ ap (λ q. q.declared) e ∙ c.undeclared);
      level_is = ap (λ (q : Choice × Option Rank). rank_level q.1) same ∙ c.level_is;
      no_code = ap (λ (q : Choice × Option Rank). q.0.action) same ∙ c.no_code;
      type_is = subst (λ l. HaveTupleType P (chosen_or_all l) t) (s n r i args p) typed;
    }))

call_before : (w : RuleChange) (g h : EnabledGrammar) → HasChangedRules w g h → KeepsSides w g h →
    (m : EnabledRule → WrittenSymbol → WrittenSymbol) → KeepsDeclared w g h m → (P : Typing) (n : Text) (args : Closeds)
    (level : Option ℕ) (t : GroundType) → CallStep h P n args level t → CallStep g P n args level t
call_before w g h k s m d P n args level t (inl c) =
    let b = rule_before w g h k n c.rule c.is_rule in
    let alike = d n b.0 b.1 in
    let y = declared_before (m b.0) b.0.declared c.written (sym alike.declared ∙ ap (λ q. q.declared) b.2 ∙ c.declared) in
    inl (record {
      rule = b.0;
      is_rule = b.1;
      written = y.0;
      declared = y.1;
      type_is = type_before (m b.0) P (type_scope g b.0 args) (type_scope h (changed_rule w b.0) args) refl (alike.closed args) y.0 t
          (subst (λ z. IsTypeOf P (type_scope h (changed_rule w b.0) args) z t) (sym y.2)
          (subst (λ q. IsTypeOf P (type_scope h q args) c.written t) (sym b.2) c.type_is));
    })
call_before w g h k s m d P n args level t (inr (inl c)) =
    let b = rule_before w g h k n c.rule c.fits.rule in
    let p = among_map (changed_pair w b.0) (ranked_choices b.0) c.choice
    (subst (λ ps. Among ps c.choice) (ranked_kept w k.ranks b.0)
    (subst (λ q. Among (ranked_choices q) c.choice) (sym b.2) c.fits.written)) in
    default_before w g h k s m d P n args level t c b.0 b.1 b.2 p.0 p.1 p.2
call_before w g h k s m d P n args level t (inr (inr c)) =
    let b = rule_before w g h k n c.rule c.is_rule in
    let alike = d n b.0 b.1 in
    inr (inr (record {
      rule = b.0;
      is_rule = b.1;
      undeclared = undeclared_before (m b.0) b.0.declared (sym alike.declared ∙ ap (λ q. q.declared) b.2 ∙ c.undeclared);
      from = c.from;
      to = c.to;
      from_is = c.from_is;
      to_is = sym (tighter_kept w k.ranks b.0 c.from) ∙ ap (λ (q : EnabledRule). tighter q c.from) b.2 ∙ c.to_is;
      type_is = c.type_is;
    }))

-- a step in the one grammar is one in the other, where calls have the same steps
step_with : (g h : EnabledGrammar) (P : Typing) → ((x : Nonterminal) → InExpansion g x → InExpansion h x) →
    ((n : Text) (args : Closeds) (level : Option ℕ) (t : GroundType) → CallStep g P n args level t → CallStep h P n args level t) →
    (x : Closed) (t : GroundType) → TypeStep g P x t → TypeStep h P x t
step_with g h P there calls (Closed.terminal (Terminal.quoted u)) t i = i
step_with g h P there calls (Closed.terminal (Terminal.regex u)) t i = i
step_with g h P there calls (Closed.terminal (Terminal.bare u)) t i = i
step_with g h P there calls (Closed.terminal Terminal.error) t i = i
step_with g h P there calls (Closed.call n args level) t i =
    (there (Nonterminal.closed (Closed.call n args level)) i.0, calls n args level t i.1)
step_with g h P there calls (Closed.repeat op x) t i = (there (Nonterminal.closed (Closed.repeat op x)) i.0, i.1, i.2, i.3)
step_with g h P there calls (Closed.group xs) t i = (there (Nonterminal.closed (Closed.group xs)) i.0, i.1)
step_with g h P there calls (Closed.choose x) t i = i
step_with g h P there calls (Closed.name a n x) t i = i
step_with g h P there calls Closed.lookahead t i = (there (Nonterminal.closed Closed.lookahead) i.0, i.1)
step_with g h P there calls Closed.lookbehind t i = (there (Nonterminal.closed Closed.lookbehind) i.0, i.1)
step_with g h P there calls Closed.faulty t i = i

steps_with : (g h : EnabledGrammar) → ((x : Nonterminal) → InExpansion g x → InExpansion h x) →
    ((P : Typing) (n : Text) (args : Closeds) (level : Option ℕ) (t : GroundType) → CallStep g P n args level t →
    CallStep h P n args level t) → (k : ℕ) (x : Closed) (t : GroundType) → IsGroundedIn g k x t → IsGroundedIn h k x t
steps_with g h there calls zero x t i = absurd i
steps_with g h there calls (suc k) x t i =
    step_with g h (IsGroundedIn h k) there (calls (IsGroundedIn h k)) x t
    (step_wider g (IsGroundedIn g k) (IsGroundedIn h k) (λ y u j. steps_with g h there calls k y u j) x t i)

-- a change of rules that keeps what alternatives and declared types close to keeps the types
pub changed_types : (w : RuleChange) (g h : EnabledGrammar) → HasChangedRules w g h → KeepsSides w g h →
    (m : EnabledRule → WrittenSymbol → WrittenSymbol) → KeepsDeclared w g h m → SameTypes g h (λ x. x)
changed_types w g h k s m d x t i = (
  λ a. (a.0, steps_with g h same.there (λ P n args level u. call_after w g h k s m d P n args level u) a.0 x t a.1),
  λ a. (a.0, steps_with h g back (λ P n args level u. call_before w g h k s m d P n args level u) a.0 x t a.1),
)
  where
    same : SameExpansion g h (λ y. y)
    same = changed_expansion w g h k s

    back : (y : Nonterminal) → InExpansion h y → InExpansion g y
    back y j = let u = same.no_other y j in subst (InExpansion g) (sym u.2) u.1

-- chains of calls

occurs_after : (w : RuleChange) (g h : EnabledGrammar) → HasChangedRules w g h → KeepsSides w g h → (y x : Closed) →
    CallOccursIn g y x → CallOccursIn h y x
occurs_after w g h c s y x o = record {
  origin = o.origin;
  side = o.side;
  produced = produces_after w g h c s (Nonterminal.closed y) o.origin o.side o.produced;
  symbol = o.symbol;
  in_side = o.in_side;
  call_is = o.call_is;
}

occurs_before : (w : RuleChange) (g h : EnabledGrammar) → HasChangedRules w g h → KeepsSides w g h → (y x : Closed) →
    CallOccursIn h y x → CallOccursIn g y x
occurs_before w g h c s y x o = record {
  origin = o.origin;
  side = o.side;
  produced = produces_before w g h c s (Nonterminal.closed y) o.origin o.side o.produced;
  symbol = o.symbol;
  in_side = o.in_side;
  call_is = o.call_is;
}

chain_after : (w : RuleChange) (g h : EnabledGrammar) → HasChangedRules w g h → KeepsSides w g h → (k : ℕ) (x : Closed) →
    HasCallChain g k x → HasCallChain h k x
chain_after w g h c s zero x i = absurd i
chain_after w g h c s (suc zero) x (y, r, o) =
    (y, root_after w g h c s (Nonterminal.closed y) r, occurs_after w g h c s y x o)
chain_after w g h c s (suc (suc k)) x (y, i, o) = (y, chain_after w g h c s (suc k) y i, occurs_after w g h c s y x o)

chain_before : (w : RuleChange) (g h : EnabledGrammar) → HasChangedRules w g h → KeepsSides w g h → (k : ℕ) (x : Closed) →
    HasCallChain h k x → HasCallChain g k x
chain_before w g h c s zero x i = absurd i
chain_before w g h c s (suc zero) x (y, r, o) =
    (y, root_before w g h c s (Nonterminal.closed y) r, occurs_before w g h c s y x o)
chain_before w g h c s (suc (suc k)) x (y, i, o) = (y, chain_before w g h c s (suc k) y i, occurs_before w g h c s y x o)

-- and chains of calls
pub changed_chains : (w : RuleChange) (g h : EnabledGrammar) → HasChangedRules w g h → KeepsSides w g h → (k : ℕ) (x : Closed) →
    HasCallChain g k x ↔ HasCallChain h k x
changed_chains w g h c s k x = (λ i. chain_after w g h c s k x i, λ i. chain_before w g h c s k x i)
