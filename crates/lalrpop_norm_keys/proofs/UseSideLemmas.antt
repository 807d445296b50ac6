-- What the search finds in a call is what the call uses, in order; for the search.
use Rattle.std.proofs.Common.{◌≡◌, List, [], ◌∷◌, ◌++◌, refl, ap, sym, ◌∙◌, subst, inl, inr, map, length}
use Rattle.std.proofs.Common.{append-nil, append_assoc}
use Rattle.std.specs.Prelude.{Option, Some, None, false, is_some, nat_lt, filter, flat_map, Result, Ok, Err, IfOk, OnOk}
use Rattle.std.proofs.lemmas.Grind.{flat_map-append}
use Rattle.lalrpop_grammar_symbols.specs.Symbols.{Text, Terminal, Op, Closed, Closeds, closed_list}
use Rattle.lalrpop_grammar_language.specs.Among.{Among}
use Rattle.lalrpop_grammar_language.specs.Enabled.{EnabledGrammar, EnabledRule, Choice, IsRule}
use Rattle.lalrpop_grammar_language.specs.Levels.{Rank, greatest, has_levels, ranked_choices, tighter}
use Rattle.lalrpop_grammar_language.specs.Closing.{Binding, right_side}
use Rattle.lalrpop_grammar_language.specs.Conditions.{Holds}
use Rattle.lalrpop_grammar_language.specs.Admitting.{bind, rank_level}
use Rattle.lalrpop_norm_theory.specs.Depth.{calls_in, calls_in_all}
use Rattle.lalrpop_norm_theory.specs.KeyTables.{keys_in, keys_in_all}
use Rattle.lalrpop_norm_theory.specs.Premises.{HasNoLevels}
use Rattle.lalrpop_norm_theory.specs.FirstUse.{AreUsesOf}
use Rattle.lalrpop_norm_theory.specs.UsedKeys.{CallUses, ChoicesUse, IsChosenAt, KeyUses}
use Rattle.lalrpop_norm_theory.specs.UsedKeys.{call_at_level}
use Rattle.lalrpop_norm_theory.proofs.ExpansionListLemmas.{rule_there}
use Rattle.lalrpop_norm_theory.proofs.LevelLemmas.{no_levels, no_rank}
use Rattle.lalrpop_norm_theory.proofs.UsedKeyLemmas.{using_choice}
use Rattle.lalrpop_norm_theory.proofs.UsedListLemmas.{key-uses, uses_of}
use Rattle.lalrpop_grammar_rules.specs.Views.{closed_view, closeds}
use Rattle.lalrpop_grammar_rules.specs.declared.closed.closed_symbol.ClosedSymbol.{ClosedSymbol}
use Rattle.lalrpop_grammar_repr.specs.declared.session.NormFault.{NormFault}
use Rattle.lalrpop_norm_keys.specs.Instances.{AddsSide, AddsSides}
use Rattle.lalrpop_norm_keys.specs.Tables.{AddsKey, AddsKeys}
use Rattle.lalrpop_norm_keys.specs.UseSearch.{AddsUsesOf, UsesCalls, UsesWithItself, macro_call, macro_calls}
use Rattle.lalrpop_norm_keys.proofs.MixedUseLemmas.{adds-append}

-- the keys of several symbols, symbol by symbol
keys_of_all : (xs : List Closed) → keys_in_all (closeds xs) ≡ flat_map keys_in xs
keys_of_all [] = refl
keys_of_all (x ∷ xs) = ap (λ l. keys_in x ++ l) (keys_of_all xs)

-- the calls among the keys of a symbol are its calls
mutual
  pub calls_of_keys : (x : Closed) → macro_calls (keys_in x) ≡ calls_in x
  calls_of_keys (Closed.terminal (Terminal.quoted t)) = refl
  calls_of_keys (Closed.terminal (Terminal.regex t)) = refl
  calls_of_keys (Closed.terminal (Terminal.bare n)) = refl
  calls_of_keys (Closed.terminal Terminal.error) = refl
  calls_of_keys (Closed.call n Closeds.none level) = refl
  calls_of_keys (Closed.call n (Closeds.more x xs) level) = refl
  calls_of_keys (Closed.repeat Op.plus x) = calls_of_keys x
  calls_of_keys (Closed.repeat Op.star x) = calls_of_keys x
  calls_of_keys (Closed.repeat Op.question x) = calls_of_keys x
  calls_of_keys (Closed.group xs) = calls_of_all_keys xs
  calls_of_keys (Closed.choose x) = calls_of_keys x
  calls_of_keys (Closed.name m n x) = calls_of_keys x
  calls_of_keys Closed.lookahead = refl
  calls_of_keys Closed.lookbehind = refl
  calls_of_keys Closed.faulty = refl

  pub calls_of_all_keys : (xs : Closeds) → macro_calls (keys_in_all xs) ≡ calls_in_all xs
  calls_of_all_keys Closeds.none = refl
  calls_of_all_keys (Closeds.more x xs) =
      flat_map-append macro_call (keys_in x) (keys_in_all xs) ∙ ap (λ l. l ++ macro_calls (keys_in_all xs)) (calls_of_keys x)
      ∙ ap (λ l. calls_in x ++ l) (calls_of_all_keys xs)

-- the right sides of a rule without levels, under arguments
module _ (g : EnabledGrammar) (n : Text) (args : Closeds) (r : EnabledRule) (is : IsRule g n r)
    (full : length (closed_list args) ≡ length r.parameters) (flat : has_levels r ≡ false) where
  abbrev Used : List (Choice × Option Rank) → List Closed → List Closed → Type 0
  Used cs old new = (us : List Closed) × (new ≡ old ++ us) × ChoicesUse g n args None r cs (flat_map keys_in us)

  chosen : (c : Choice × Option Rank) → Among (ranked_choices r) c → Holds g (bind r args) c.0.condition
      → IsChosenAt g n args None r c
  chosen c i h = (
    record {
      rule = is;
      arguments = full;
      written = i;
      leveled = ap (λ (k : Option Rank). is_some k) (no_rank r c flat i) ∙ sym flat;
      holds = h;
    },
    ap rank_level (no_rank r c flat i),
  )

  sides_use : (cs : List (Choice × Option Rank)) (old new : List Closed)
      → ((c : Choice × Option Rank) → Among cs c → Among (ranked_choices r) c) → AddsSides g r (bind r args) cs old new
      → Used cs old new
  sides_use [] old new all e = ([], e ∙ sym (append-nil old), refl)
  sides_use (c ∷ cs) old new all (next, a, w) = go a (sides_use cs next new (λ d i. all d (inr i)) w)
    where
      side : List Closed
      side = right_side g r (bind r args) c

      go : AddsSide g r (bind r args) c old next → Used cs next new → Used (c ∷ cs) old new
      go (inl (h, e)) (us, f, u) = (
        side ++ us,
        f ∙ ap (λ l. l ++ us) e ∙ append_assoc old side us,
        (
          flat_map keys_in side,
          flat_map keys_in us,
          flat_map-append keys_in side us,
          inl (chosen c (all c (inl refl)) h, refl),
          u,
        ),
      )
      go (inr (none, e)) (us, f, u) = (
        us,
        f ∙ ap (λ l. l ++ us) e,
        ([], flat_map keys_in us, refl, inr (λ k. none k.0.holds, refl), u),
      )

  -- the keys in them are what the call uses
  pub uses_of_sides : (xs : List Closed) → AddsSides g r (bind r args) (ranked_choices r) [] xs
      → KeyUses g (Closed.call n args None) (keys_in_all (closeds xs))
  uses_of_sides xs added =
      let w = sides_use (ranked_choices r) [] xs (λ c i. i) added in
      CallUses.of_rule r (flat_map keys_in w.0) (record { is_rule = is; arguments = full }) w.2
      (keys_of_all xs ∙ ap (flat_map keys_in) w.1 ∙ sym (append-nil (flat_map keys_in w.0)))

-- as the program has them
module _ (g : EnabledGrammar) (n : Text) (args : Closeds) where
  pub uses_ok : (r : EnabledRule) (is : IsRule g n r) → length (closed_list args) ≡ length r.parameters → (b : Binding)
      → b ≡ bind r args → (res : Result (List ClosedSymbol) NormFault)
      → IfOk res (λ xs. AddsSides g r b (ranked_choices r) [] (map closed_view xs))
      → IfOk res (λ xs. HasNoLevels g → KeyUses g (Closed.call n args None) (keys_in_all (closeds (map closed_view xs))))
  uses_ok r is full b same (Ok xs) h = λ flat.
      uses_of_sides g n args r is full (flat r (rule_there g n r is).0) (map closed_view xs)
      (subst (λ d. AddsSides g r d (ranked_choices r) [] (map closed_view xs)) same h)
  uses_ok r is full b same (Err e) h = h

  -- a call that calls no rule uses nothing
  pub uses_nothing : ((r : EnabledRule) → IsRule g n r → length (closed_list args) ≡ length r.parameters → ⊥)
      → KeyUses g (Closed.call n args None) []
  uses_nothing out = CallUses.of_none (λ r w. out r w.is_rule w.arguments) refl

empty_of : {A : Type 0} (xs : List A) → ((x : A) → Among xs x → ⊥) → xs ≡ []
empty_of [] out = refl
empty_of (x ∷ xs) out = absurd (out x (inl refl))

-- where no rule has levels, what is no call without a level uses nothing
pub leveled_uses : (g : EnabledGrammar) → HasNoLevels g → (y : Closed) → ((n : Text) (args : Closeds) → y ≡ Closed.call n args None → ⊥)
    → KeyUses g y []
leveled_uses g flat (Closed.call n args None) k = absurd (k n args refl)
leveled_uses g flat (Closed.call n args (Some l)) k = go (uses_of g (Closed.call n args (Some l))) (key-uses g (Closed.call n args (Some l)))
  where
    go : (us : List Closed) → CallUses g n args (Some l) us → CallUses g n args (Some l) []
    go us (CallUses.of_none h e) = CallUses.of_none h refl
    go us (CallUses.of_rule r mine c w e) =
        let low : has_levels r ≡ false = flat r (rule_there g n r c.is_rule).0 in
        let down : tighter r l ≡ None = ap (λ ls. greatest (filter (λ m. nat_lt m l) ls)) (no_levels r low) in
        let none : mine ≡ [] = empty_of mine (λ x i.
        let v = using_choice g n args (Some l) r (ranked_choices r) mine w x i in
        let wrong : None ≡ Some l = sym (ap rank_level (no_rank r v.choice low v.among)) ∙ v.chosen.1 in cc) in
        CallUses.of_rule r [] c (subst (ChoicesUse g n args (Some l) r (ranked_choices r)) none w)
        (sym (ap (call_at_level n args) down))
leveled_uses g flat (Closed.terminal t) k = refl
leveled_uses g flat (Closed.repeat op x) k = refl
leveled_uses g flat (Closed.group xs) k = refl
leveled_uses g flat (Closed.choose x) k = refl
leveled_uses g flat (Closed.name m n x) k = refl
leveled_uses g flat Closed.lookahead k = refl
leveled_uses g flat Closed.lookbehind k = refl
leveled_uses g flat Closed.faulty k = refl

-- what is added

-- one key's list
one_list : (uses : Closed → List Closed → Type 0) (y : Closed) (us : List Closed) → uses y us → AreUsesOf uses (y ∷ []) us
one_list uses y us u = (us, [], sym (append-nil us), u, refl)

-- the calls in the symbols on the right sides of a call are added
pub calls_added : (g : EnabledGrammar) (y : Closed) (known all xs us : List Closed) → xs ≡ calls_in_all (closeds us)
    → KeyUses g y (keys_in_all (closeds us)) → AddsKeys known xs all → AddsUsesOf (UsesCalls g) (y ∷ []) known all
calls_added g y known all xs us e u a = (
  macro_calls (keys_in_all (closeds us)),
  one_list (UsesCalls g) y (macro_calls (keys_in_all (closeds us))) (keys_in_all (closeds us), u, refl),
  subst (λ l. AddsKeys known l all) (e ∙ sym (calls_of_all_keys (closeds us))) a,
)

-- and so are the keys
pub keys_added : (g : EnabledGrammar) (y : Closed) (known all xs us : List Closed) → xs ≡ keys_in_all (closeds us)
    → KeyUses g y (keys_in_all (closeds us)) → AddsKeys known xs all → AddsUsesOf (KeyUses g) (y ∷ []) known all
keys_added g y known all xs us e u a = (
  keys_in_all (closeds us),
  one_list (KeyUses g) y (keys_in_all (closeds us)) u,
  subst (λ l. AddsKeys known l all) e a,
)

-- a call in which nothing stands adds nothing
pub no_calls_added : (g : EnabledGrammar) (y : Closed) (known : List Closed) → KeyUses g y [] → AddsUsesOf (UsesCalls g) (y ∷ []) known known
no_calls_added g y known u = ([], one_list (UsesCalls g) y [] ([], u, refl), refl)

-- but itself, where it is added too
pub itself_added : (g : EnabledGrammar) (y : Closed) (known all : List Closed) → AddsKey known y all → KeyUses g y []
    → AddsUsesOf (UsesWithItself g) (y ∷ []) known all
itself_added g y known all a u = (y ∷ [], one_list (UsesWithItself g) y (y ∷ []) ([], u, refl), (all, a, refl))

-- a call is added, and then what it uses
pub with_itself_added : {T E : Type 0} (g : EnabledGrammar) (y v : Closed) (known mid all : List Closed) (res : Result T E)
    → AddsKey known y mid → y ≡ v → OnOk res (HasNoLevels g → AddsUsesOf (KeyUses g) (v ∷ []) mid all)
    → OnOk res (HasNoLevels g → AddsUsesOf (UsesWithItself g) (y ∷ []) known all)
with_itself_added g y v known mid all (Err x) a e h = h
with_itself_added g y v known mid all (Ok x) a e h = λ flat. go (h flat)
  where
    go : AddsUsesOf (KeyUses g) (v ∷ []) mid all → AddsUsesOf (UsesWithItself g) (y ∷ []) known all
    go (us, (m, rest, f, u, none), w) =
        let same : us ≡ m = f ∙ ap (λ l. m ++ l) none ∙ append-nil m in (
          y ∷ us,
          one_list (UsesWithItself g) y (y ∷ us)
              (m, subst (λ z. KeyUses g z m) (sym e) u, ap (λ l. y ∷ l) same),
          (mid, a, w),
        )

-- the call that a symbol is, as it is told
pub calls_of_symbol : {T E : Type 0} (g : EnabledGrammar) (y v : Closed) (known all : List Closed) (res : Result T E) → y ≡ v
    → OnOk res (HasNoLevels g → AddsUsesOf (UsesCalls g) (v ∷ []) known all)
    → OnOk res (HasNoLevels g → AddsUsesOf (UsesCalls g) (y ∷ []) known all)
calls_of_symbol g y v known all res e h =
    subst (λ z. OnOk res (HasNoLevels g → AddsUsesOf (UsesCalls g) (z ∷ []) known all)) (sym e) h

-- several, one after another

pub uses-append : (uses : Closed → List Closed → Type 0) (ys zs us vs : List Closed) → AreUsesOf uses ys us → AreUsesOf uses zs vs
    → AreUsesOf uses (ys ++ zs) (us ++ vs)
uses-append uses [] zs us vs e w = subst (λ l. AreUsesOf uses zs (l ++ vs)) (sym e) w
uses-append uses (y ∷ ys) zs us vs (m, r, e, u, v) w =
    (m, r ++ vs, ap (λ l. l ++ vs) e ∙ append_assoc m r vs, u, uses-append uses ys zs r vs v w)

pub nothing_added : (uses : Closed → List Closed → Type 0) (known : List Closed) → AddsUsesOf uses [] known known
nothing_added uses known = ([], refl, refl)

pub added_together : (uses : Closed → List Closed → Type 0) (ys zs known mid all : List Closed) → AddsUsesOf uses ys known mid
    → AddsUsesOf uses zs mid all → AddsUsesOf uses (ys ++ zs) known all
added_together uses ys zs known mid all (us, u, v) (ws, w, z) =
    (us ++ ws, uses-append uses ys zs us ws u w, adds-append known us mid ws all v z)
