-- Steps of a derivation under the names of the keys, there and back; for the law of the types of keys.
use Rattle.std.proofs.Common.{◌≡◌, ℕ, zero, suc, List, [], ◌∷◌, refl, ap, sym, ◌∙◌, subst, false, inl, inr}
use Rattle.std.specs.Prelude.{Option, Some, None, is_some, codes}
use Rattle.lalrpop_grammar_symbols.specs.Symbols.{Text, Terminal, Op, WrittenSymbol, Closed, Closeds, closed_list}
use Rattle.lalrpop_grammar.specs.WrittenGrammar.{Ty, Tys}
use Rattle.lalrpop_grammar_language.specs.Among.{Among}
use Rattle.lalrpop_grammar_language.specs.Enabled.{EnabledGrammar, EnabledRule, IsRule}
use Rattle.lalrpop_grammar_language.specs.Levels.{Rank, has_levels, loosest, ranked_choices}
use Rattle.lalrpop_grammar_language.specs.Closing.{Scope, close, sound_or_faulty, right_side}
use Rattle.lalrpop_grammar_language.specs.Admitting.{Fits, bind, rank_level}
use Rattle.lalrpop_grammar_language.specs.Expansion.{Nonterminal, InExpansion}
use Rattle.lalrpop_norm_theory.specs.Types.{GroundType, GroundTypes, place_type, repeat_type, chosen_or_all, HaveTupleType}
use Rattle.lalrpop_norm_theory.specs.Types.{IsTypeOf, type_scope, CallStep, TypeStep, IsGroundedIn, SameTypes}
use Rattle.lalrpop_norm_theory.proofs.LevelLemmas.{no_loosest, no_rank}
use Rattle.lalrpop_norm_theory.specs.KeyRules.{AreWrittenFor, by_name, IsKeyRule, IsMacroExpansion, nonterminal_by_name}
use Rattle.lalrpop_norm_theory.proofs.KeyRuleLemmas.{in_keys, key_called, expanded}
use Rattle.lalrpop_norm_theory.proofs.LevelOrderLemmas.{one_rule}
use Rattle.lalrpop_norm_theory.specs.KeyTypes.{HasKeyRule, IsPutType, IsPutDeclaration, repeat_ty, DeclareKeyTypes}
use Rattle.lalrpop_norm_theory.proofs.TypeListLemmas.{Typing}
use Rattle.lalrpop_norm_theory.proofs.KeyClosingLemmas.{closes_named, IsUnkeyed}
use Rattle.lalrpop_norm_theory.proofs.KeyTypeLemmas.{put_forth, put_back}
use Rattle.lalrpop_norm_theory.proofs.MacroTypeLemmas.{IsForth, IsBack, puts_forth, puts_back, chosen_there, KeyStep, key_step}
use Rattle.lalrpop_norm_theory.proofs.MacroTypeLemmas.{chosen_back, instance_there, instance_only, repeat_part}
use Rattle.lalrpop_norm_theory.proofs.MacroTypeLemmas.{group_parts, call_parts}

-- declared types of repeats and lookarounds

repeat_forth : (Q : Typing) (s : Scope) (op : Op) (v : WrittenSymbol) (u t : GroundType) → t ≡ repeat_type op u →
    Q (sound_or_faulty (close s 0 v)) u → IsTypeOf Q s (repeat_ty op v) t
repeat_forth Q s Op.star v u t e i = (GroundTypes.more u GroundTypes.none, e, (i, tt))
repeat_forth Q s Op.plus v u t e i = (GroundTypes.more u GroundTypes.none, e, (i, tt))
repeat_forth Q s Op.question v u t e i = (GroundTypes.more u GroundTypes.none, e, (i, tt))

abbrev RepeatPart : Typing → Scope → Op → WrittenSymbol → GroundType → Type 0
RepeatPart Q s op v t = (u : GroundType) × (t ≡ repeat_type op u) × Q (sound_or_faulty (close s 0 v)) u

repeat_back : (Q : Typing) (s : Scope) (op : Op) (v : WrittenSymbol) (t : GroundType) → IsTypeOf Q s (repeat_ty op v) t →
    RepeatPart Q s op v t
repeat_back Q s Op.star v t (GroundTypes.none, e, i) = absurd i
repeat_back Q s Op.star v t (GroundTypes.more u GroundTypes.none, e, i) = (u, e, i.0)
repeat_back Q s Op.star v t (GroundTypes.more u (GroundTypes.more a rest), e, i) = absurd i.1
repeat_back Q s Op.plus v t (GroundTypes.none, e, i) = absurd i
repeat_back Q s Op.plus v t (GroundTypes.more u GroundTypes.none, e, i) = (u, e, i.0)
repeat_back Q s Op.plus v t (GroundTypes.more u (GroundTypes.more a rest), e, i) = absurd i.1
repeat_back Q s Op.question v t (GroundTypes.none, e, i) = absurd i
repeat_back Q s Op.question v t (GroundTypes.more u GroundTypes.none, e, i) = (u, e, i.0)
repeat_back Q s Op.question v t (GroundTypes.more u (GroundTypes.more a rest), e, i) = absurd i.1

abbrev place_ty : Ty
place_ty = Ty.nominal (codes "usize") Tys.none

place_back : (Q : Typing) (s : Scope) (t : GroundType) → IsTypeOf Q s place_ty t → t ≡ place_type
place_back Q s t (GroundTypes.none, e, i) = e
place_back Q s t (GroundTypes.more a rest, e, i) = absurd i

no_level_rank : (o : Option Rank) → rank_level o ≡ None → o ≡ None
no_level_rank None e = refl
no_level_rank (Some k) e = cc

-- there

call_forth : (g h : EnabledGrammar) (f : Closed → Text) (keys : List Closed) → IsMacroExpansion g h f keys →
    DeclareKeyTypes g h f keys → (P Q : Typing) → IsForth h f keys P Q → (n : Text) (args : Closeds) (level : Option ℕ) →
    Among keys (Closed.call n args level) → (q : EnabledRule) → IsRule h (f (Closed.call n args level)) q →
    IsKeyRule g f (Closed.call n args level) q → (t : GroundType) → CallStep g P n args level t →
    CallStep h Q (f (Closed.call n args level)) Closeds.none None t
call_forth g h f keys w d P Q b n args (Some l) i q is key t m = absurd key.choices
call_forth g h f keys w d P Q b n args None i q is key t (inl m) =
    let decl = d (Closed.call n args None) q i is in
    let same : m.rule ≡ decl.0 = one_rule g n m.rule decl.0 m.is_rule decl.1 in
    let put : IsPutDeclaration g.bares f keys (type_scope g decl.0 args) (Some m.written) q.declared =
    subst (λ o. IsPutDeclaration g.bares f keys (type_scope g decl.0 args) o q.declared)
    (ap (λ (e : EnabledRule). e.declared) (sym same) ∙ m.declared) decl.2 in
    inl (record {
      rule = q;
      is_rule = is;
      written = put.0;
      declared = put.1;
      type_is = put_forth g.bares f keys P Q (type_scope g decl.0 args) (type_scope h q Closeds.none)
          (puts_forth g h f keys w P Q b q key.no_levels key.no_macro) m.written put.0 put.2 t
          (subst (λ e. IsTypeOf P (type_scope g e args) m.written t) same m.type_is);
    })
call_forth g h f keys w d P Q b n args None i q is key t (inr (inl m)) =
    let decl = d (Closed.call n args None) q i is in
    let other : m.rule ≡ decl.0 = one_rule g n m.rule decl.0 m.fits.rule decl.1 in
    let undeclared : q.declared ≡ None =
    subst (λ o. IsPutDeclaration g.bares f keys (type_scope g decl.0 args) o q.declared)
    (ap (λ (e : EnabledRule). e.declared) (sym other) ∙ m.undeclared) decl.2 in
    let made = key.choices in
    let same : m.rule ≡ made.0 = one_rule g n m.rule made.0 m.fits.rule made.1 in
    let fits = subst (λ e. Fits g n args e m.choice) same m.fits in
    let c = instance_there g f made.0 args (ranked_choices made.0) q.choices made.3 m.choice fits.written fits.holds in
    chosen_there g h f keys w P Q b (Closed.call n args None) q is key undeclared c.0 c.1 c.2.free (c.2.action ∙ m.no_code)
    (right_side g made.0 (bind made.0 args) m.choice)
    (call_parts g h f keys w n args i made.0 m.choice fits (no_level_rank m.choice.1 m.level_is)) c.2.put t
    (subst (λ e. HaveTupleType P (chosen_or_all (right_side g e (bind e args) m.choice)) t) same m.type_is)
call_forth g h f keys w d P Q b n args None i q is key t (inr (inr m)) = let e : None ≡ Some m.from = m.from_is in cc

step_forth : (g h : EnabledGrammar) (f : Closed → Text) (keys : List Closed) → IsMacroExpansion g h f keys →
    DeclareKeyTypes g h f keys → (P Q : Typing) → IsForth h f keys P Q → (x : Closed) (t : GroundType) → TypeStep g P x t →
    TypeStep h Q (by_name f x) t
step_forth g h f keys w d P Q b (Closed.terminal (Terminal.quoted a)) t i = i
step_forth g h f keys w d P Q b (Closed.terminal (Terminal.regex a)) t i = i
step_forth g h f keys w d P Q b (Closed.terminal (Terminal.bare a)) t i = i
step_forth g h f keys w d P Q b (Closed.terminal Terminal.error) t i = i
step_forth g h f keys w d P Q b (Closed.call n args level) t i =
    let key = in_keys g h f keys w (Closed.call n args level) i.0 in
    let u = w.rules (Closed.call n args level) key in (
      (expanded g h f keys w).there (Nonterminal.closed (Closed.call n args level)) i.0,
      call_forth g h f keys w d P Q b n args level key u.0 u.1 u.2 t i.1,
    )
step_forth g h f keys w d P Q b (Closed.repeat op x) t i =
    let key = in_keys g h f keys w (Closed.repeat op x) i.0 in
    let u = w.rules (Closed.repeat op x) key in
    let decl = d (Closed.repeat op x) u.0 key u.1 in
    let s = type_scope h u.0 Closeds.none in
    let closes : sound_or_faulty (close s 0 decl.0) ≡ by_name f x =
    closes_named g h f keys w (bind u.0 Closeds.none) u.0.name (λ k. loosest u.0) (λ k. no_loosest u.0 u.2.no_levels) 0 x decl.0
    (repeat_part g h f keys w op x key) decl.2 in (
      (expanded g h f keys w).there (Nonterminal.closed (Closed.repeat op x)) i.0,
      inl (record {
        rule = u.0;
        is_rule = u.1;
        written = repeat_ty op decl.0;
        declared = decl.1;
        type_is = repeat_forth Q s op decl.0 i.1 t i.2 (subst (λ y. Q y i.1) (sym closes) (b.types x i.1 i.3));
      }),
    )
step_forth g h f keys w d P Q b (Closed.group xs) t i =
    let key = in_keys g h f keys w (Closed.group xs) i.0 in
    let u = w.rules (Closed.group xs) key in
    let c = u.2.choices in (
      (expanded g h f keys w).there (Nonterminal.closed (Closed.group xs)) i.0,
      chosen_there g h f keys w P Q b (Closed.group xs) u.0 u.1 u.2 (d (Closed.group xs) u.0 key u.1) c.0
          (subst (λ l. Among l c.0) (sym c.1) (inl refl)) c.2.unconditional c.3 (closed_list xs)
          (λ y j. group_parts g h f keys w xs key y j) c.2.symbols t i.1,
    )
step_forth g h f keys w d P Q b (Closed.choose x) t i = b.types x t i
step_forth g h f keys w d P Q b (Closed.name a n x) t i = b.types x t i
step_forth g h f keys w d P Q b Closed.lookahead t i =
    let key = in_keys g h f keys w Closed.lookahead i.0 in
    let u = w.rules Closed.lookahead key in (
      (expanded g h f keys w).there (Nonterminal.closed Closed.lookahead) i.0,
      inl (record {
        rule = u.0;
        is_rule = u.1;
        written = place_ty;
        declared = d Closed.lookahead u.0 key u.1;
        type_is = (GroundTypes.none, i.1, tt);
      }),
    )
step_forth g h f keys w d P Q b Closed.lookbehind t i =
    let key = in_keys g h f keys w Closed.lookbehind i.0 in
    let u = w.rules Closed.lookbehind key in (
      (expanded g h f keys w).there (Nonterminal.closed Closed.lookbehind) i.0,
      inl (record {
        rule = u.0;
        is_rule = u.1;
        written = place_ty;
        declared = d Closed.lookbehind u.0 key u.1;
        type_is = (GroundTypes.none, i.1, tt);
      }),
    )
step_forth g h f keys w d P Q b Closed.faulty t i = absurd i

-- and back

some_declared : (g : EnabledGrammar) (f : Closed → Text) (keys : List Closed) (s : Scope) (o p : Option Ty) →
    IsPutDeclaration g.bares f keys s o p → (z : Ty) → p ≡ Some z →
    (y : Ty) × (o ≡ Some y) × IsPutType g.bares f keys s y z
some_declared g f keys s None p i z e = let none : None ≡ Some z = sym i ∙ e in cc
some_declared g f keys s (Some y) p i z e =
    let both : Some i.0 ≡ Some z = sym i.1 ∙ e in
    let same : i.0 ≡ z = cc in (y, refl, subst (IsPutType g.bares f keys s y) same i.2)

none_declared : (g : EnabledGrammar) (f : Closed → Text) (keys : List Closed) (s : Scope) (o p : Option Ty) →
    IsPutDeclaration g.bares f keys s o p → p ≡ None → o ≡ None
none_declared g f keys s None p i e = refl
none_declared g f keys s (Some y) p i e = let none : Some i.0 ≡ None = sym i.1 ∙ e in cc

call_back : (g h : EnabledGrammar) (f : Closed → Text) (keys : List Closed) → IsMacroExpansion g h f keys →
    DeclareKeyTypes g h f keys → (P Q : Typing) → IsBack f keys P Q → (n : Text) (args : Closeds) (level : Option ℕ) →
    Among keys (Closed.call n args level) → (q : EnabledRule) → IsRule h (f (Closed.call n args level)) q →
    IsKeyRule g f (Closed.call n args level) q → (t : GroundType) → KeyStep h f Q (Closed.call n args level) q t →
    CallStep g P n args level t
call_back g h f keys w d P Q b n args (Some l) i q is key t m = absurd key.choices
call_back g h f keys w d P Q b n args None i q is key t (KeyStep.declared z e typed) =
    let decl = d (Closed.call n args None) q i is in
    let s = type_scope g decl.0 args in
    let y = some_declared g f keys s decl.0.declared q.declared decl.2 z e in
    inl (record {
      rule = decl.0;
      is_rule = decl.1;
      written = y.0;
      declared = y.1;
      type_is = put_back g.bares f keys P Q s (type_scope h q Closeds.none)
          (puts_back g h f keys w P Q b q key.no_levels key.no_macro) y.0 z y.2 t typed;
    })
call_back g h f keys w d P Q b n args None i q is key t (KeyStep.chosen c j undeclared no_code typed) =
    let decl = d (Closed.call n args None) q i is in
    let made = key.choices in
    let same : decl.0 ≡ made.0 = one_rule g n decl.0 made.0 decl.1 made.1 in
    let p = instance_only g f made.0 args (ranked_choices made.0) q.choices made.3 c j in
    let flat = w.no_levels n made.0 made.1 in
    let rank : p.0.1 ≡ None = no_rank made.0 p.0 flat p.1 in
    let fits : Fits g n args made.0 p.0 = record {
      rule = made.1;
      arguments = made.2;
      written = p.1;
      leveled = ap is_some rank ∙ sym flat;
      holds = p.2.holds;
    } in
    inr (inl (record {
      rule = made.0;
      choice = p.0;
      fits = fits;
      undeclared = ap (λ (e : EnabledRule). e.declared) (sym same)
          ∙ none_declared g f keys (type_scope g decl.0 args) decl.0.declared q.declared decl.2 undeclared;
      level_is = ap rank_level rank;
      no_code = sym p.2.action ∙ no_code;
      type_is = chosen_back g h f keys w P Q b q key.no_levels c (right_side g made.0 (bind made.0 args) p.0)
          (call_parts g h f keys w n args i made.0 p.0 fits rank) p.2.put t typed;
    }))

repeat_step : (g h : EnabledGrammar) (f : Closed → Text) (keys : List Closed) → IsMacroExpansion g h f keys →
    DeclareKeyTypes g h f keys → (P Q : Typing) → IsBack f keys P Q → (op : Op) (x : Closed) → Among keys (Closed.repeat op x) →
    (q : EnabledRule) → IsRule h (f (Closed.repeat op x)) q → has_levels q ≡ false → (t : GroundType) →
    KeyStep h f Q (Closed.repeat op x) q t → (u : GroundType) × (t ≡ repeat_type op u) × P x u
repeat_step g h f keys w d P Q b op x i q is flat t (KeyStep.declared z e typed) =
    let decl = d (Closed.repeat op x) q i is in
    let s = type_scope h q Closeds.none in
    let both : Some z ≡ Some (repeat_ty op decl.0) = sym e ∙ decl.1 in
    let same : z ≡ repeat_ty op decl.0 = cc in
    let r = repeat_back Q s op decl.0 t (subst (λ y. IsTypeOf Q s y t) same typed) in
    let has = repeat_part g h f keys w op x i in
    let closes : sound_or_faulty (close s 0 decl.0) ≡ by_name f x =
    closes_named g h f keys w (bind q Closeds.none) q.name (λ k. loosest q) (λ k. no_loosest q flat) 0 x decl.0 has decl.2 in
    (r.0, r.1, b.types x has r.0 (subst (λ y. Q y r.0) closes r.2))
repeat_step g h f keys w d P Q b op x i q is flat t (KeyStep.chosen c j undeclared no_code typed) =
    let decl = d (Closed.repeat op x) q i is in
    let none : None ≡ Some (repeat_ty op decl.0) = sym undeclared ∙ decl.1 in cc

group_step : (g h : EnabledGrammar) (f : Closed → Text) (keys : List Closed) → IsMacroExpansion g h f keys →
    DeclareKeyTypes g h f keys → (P Q : Typing) → IsBack f keys P Q → (xs : Closeds) → Among keys (Closed.group xs) →
    (q : EnabledRule) → IsRule h (f (Closed.group xs)) q → IsKeyRule g f (Closed.group xs) q → (t : GroundType) →
    KeyStep h f Q (Closed.group xs) q t → HaveTupleType P (chosen_or_all (closed_list xs)) t
group_step g h f keys w d P Q b xs i q is key t (KeyStep.declared z e typed) =
    let none : None ≡ Some z = sym (d (Closed.group xs) q i is) ∙ e in cc
group_step g h f keys w d P Q b xs i q is key t (KeyStep.chosen c j undeclared no_code typed) =
    let one = key.choices in
    chosen_back g h f keys w P Q b q key.no_levels c (closed_list xs) (λ y l. group_parts g h f keys w xs i y l)
    (only (subst (λ l. Among l c) one.1 j)) t typed
  where
    only : Among (key.choices.0 ∷ []) c → AreWrittenFor g.bares f (closed_list xs) c.expr
    only (inl e) = subst (λ a. AreWrittenFor g.bares f (closed_list xs) a.expr) e key.choices.2.symbols
    only (inr k) = absurd k

place_step : (h : EnabledGrammar) (f : Closed → Text) (Q : Typing) (x : Closed) (q : EnabledRule) → q.declared ≡ Some place_ty →
    (t : GroundType) → KeyStep h f Q x q t → t ≡ place_type
place_step h f Q x q decl t (KeyStep.declared z e typed) =
    let both : Some z ≡ Some place_ty = sym e ∙ decl in
    let same : z ≡ place_ty = cc in
    place_back Q (type_scope h q Closeds.none) t (subst (λ y. IsTypeOf Q (type_scope h q Closeds.none) y t) same typed)
place_step h f Q x q decl t (KeyStep.chosen c j undeclared no_code typed) =
    let none : None ≡ Some place_ty = sym undeclared ∙ decl in cc

step_back : (g h : EnabledGrammar) (f : Closed → Text) (keys : List Closed) → IsMacroExpansion g h f keys →
    DeclareKeyTypes g h f keys → (P Q : Typing) → IsBack f keys P Q → (x : Closed) → HasKeyRule keys x → (t : GroundType) →
    TypeStep h Q (by_name f x) t → TypeStep g P x t
step_back g h f keys w d P Q b (Closed.terminal (Terminal.quoted a)) has t i = i
step_back g h f keys w d P Q b (Closed.terminal (Terminal.regex a)) has t i = i
step_back g h f keys w d P Q b (Closed.terminal (Terminal.bare a)) has t i = i
step_back g h f keys w d P Q b (Closed.terminal Terminal.error) has t i = i
step_back g h f keys w d P Q b (Closed.call n args level) has t i =
    let u = w.rules (Closed.call n args level) has in (
      w.reached (Closed.call n args level) has,
      call_back g h f keys w d P Q b n args level has u.0 u.1 u.2 t
          (key_step h f Q (Closed.call n args level) u.0 u.1 u.2.no_levels t i.1),
    )
step_back g h f keys w d P Q b (Closed.repeat op x) has t i =
    let u = w.rules (Closed.repeat op x) has in
    let r = repeat_step g h f keys w d P Q b op x has u.0 u.1 u.2.no_levels t
    (key_step h f Q (Closed.repeat op x) u.0 u.1 u.2.no_levels t i.1) in
    (w.reached (Closed.repeat op x) has, r.0, r.1, r.2)
step_back g h f keys w d P Q b (Closed.group xs) has t i =
    let u = w.rules (Closed.group xs) has in (
      w.reached (Closed.group xs) has,
      group_step g h f keys w d P Q b xs has u.0 u.1 u.2 t (key_step h f Q (Closed.group xs) u.0 u.1 u.2.no_levels t i.1),
    )
step_back g h f keys w d P Q b (Closed.choose x) has t i = b.types x has t i
step_back g h f keys w d P Q b (Closed.name a n x) has t i = b.types x has t i
step_back g h f keys w d P Q b Closed.lookahead has t i =
    let u = w.rules Closed.lookahead has in (
      w.reached Closed.lookahead has,
      place_step h f Q Closed.lookahead u.0 (d Closed.lookahead u.0 has u.1) t
          (key_step h f Q Closed.lookahead u.0 u.1 u.2.no_levels t i.1),
    )
step_back g h f keys w d P Q b Closed.lookbehind has t i =
    let u = w.rules Closed.lookbehind has in (
      w.reached Closed.lookbehind has,
      place_step h f Q Closed.lookbehind u.0 (d Closed.lookbehind u.0 has u.1) t
          (key_step h f Q Closed.lookbehind u.0 u.1 u.2.no_levels t i.1),
    )
step_back g h f keys w d P Q b Closed.faulty has t i = absurd has

-- so many steps

grounded_has_rule : (g h : EnabledGrammar) (f : Closed → Text) (keys : List Closed) → IsMacroExpansion g h f keys → (k : ℕ)
    (x : Closed) (t : GroundType) → IsGroundedIn g k x t → HasKeyRule keys x
grounded_has_rule g h f keys w zero x t i = absurd i
grounded_has_rule g h f keys w (suc k) (Closed.terminal (Terminal.quoted a)) t i = tt
grounded_has_rule g h f keys w (suc k) (Closed.terminal (Terminal.regex a)) t i = tt
grounded_has_rule g h f keys w (suc k) (Closed.terminal (Terminal.bare a)) t i = tt
grounded_has_rule g h f keys w (suc k) (Closed.terminal Terminal.error) t i = absurd i
grounded_has_rule g h f keys w (suc k) (Closed.call n args level) t i = in_keys g h f keys w (Closed.call n args level) i.0
grounded_has_rule g h f keys w (suc k) (Closed.repeat op x) t i = in_keys g h f keys w (Closed.repeat op x) i.0
grounded_has_rule g h f keys w (suc k) (Closed.group xs) t i = in_keys g h f keys w (Closed.group xs) i.0
grounded_has_rule g h f keys w (suc k) (Closed.choose x) t i = grounded_has_rule g h f keys w k x t i
grounded_has_rule g h f keys w (suc k) (Closed.name a n x) t i = grounded_has_rule g h f keys w k x t i
grounded_has_rule g h f keys w (suc k) Closed.lookahead t i = in_keys g h f keys w Closed.lookahead i.0
grounded_has_rule g h f keys w (suc k) Closed.lookbehind t i = in_keys g h f keys w Closed.lookbehind i.0
grounded_has_rule g h f keys w (suc k) Closed.faulty t i = absurd i

-- the expanded grammar reaches calls alone
not_there : (g h : EnabledGrammar) (f : Closed → Text) (keys : List Closed) → IsMacroExpansion g h f keys → (x : Closed) →
    InExpansion h (Nonterminal.closed x) → (n : Text) × (x ≡ Closed.call n Closeds.none None)
not_there g h f keys w x i = let u = (expanded g h f keys w).no_other (Nonterminal.closed x) i in go u.0 u.1 u.2
  where
    go : (z : Nonterminal) → InExpansion g z → Nonterminal.closed x ≡ nonterminal_by_name f z →
        (n : Text) × (x ≡ Closed.call n Closeds.none None)
    go (Nonterminal.start n) j e = cc
    go (Nonterminal.closed y) j e =
        let same : x ≡ by_name f y = cc in (f y, same ∙ key_called f y (w.keys_only y (in_keys g h f keys w y j)))

grounded_keyed : (g h : EnabledGrammar) (f : Closed → Text) (keys : List Closed) → IsMacroExpansion g h f keys → (k : ℕ)
    (x : Closed) → IsUnkeyed x → (t : GroundType) → IsGroundedIn h k x t → ⊥
grounded_keyed g h f keys w zero x a t i = absurd i
grounded_keyed g h f keys w (suc k) (Closed.terminal (Terminal.quoted b)) a t i = absurd a
grounded_keyed g h f keys w (suc k) (Closed.terminal (Terminal.regex b)) a t i = absurd a
grounded_keyed g h f keys w (suc k) (Closed.terminal (Terminal.bare b)) a t i = absurd a
grounded_keyed g h f keys w (suc k) (Closed.terminal Terminal.error) a t i = absurd i
grounded_keyed g h f keys w (suc k) (Closed.call n args level) a t i = absurd a
grounded_keyed g h f keys w (suc k) (Closed.repeat op x) a t i =
    let u = not_there g h f keys w (Closed.repeat op x) i.0 in
    let e : Closed.repeat op x ≡ Closed.call u.0 Closeds.none None = u.1 in cc
grounded_keyed g h f keys w (suc k) (Closed.group xs) a t i =
    let u = not_there g h f keys w (Closed.group xs) i.0 in
    let e : Closed.group xs ≡ Closed.call u.0 Closeds.none None = u.1 in cc
grounded_keyed g h f keys w (suc k) (Closed.choose x) a t i = grounded_keyed g h f keys w k x a t i
grounded_keyed g h f keys w (suc k) (Closed.name b n x) a t i = grounded_keyed g h f keys w k x a t i
grounded_keyed g h f keys w (suc k) Closed.lookahead a t i =
    let u = not_there g h f keys w Closed.lookahead i.0 in
    let e : Closed.lookahead ≡ Closed.call u.0 Closeds.none None = u.1 in cc
grounded_keyed g h f keys w (suc k) Closed.lookbehind a t i =
    let u = not_there g h f keys w Closed.lookbehind i.0 in
    let e : Closed.lookbehind ≡ Closed.call u.0 Closeds.none None = u.1 in cc
grounded_keyed g h f keys w (suc k) Closed.faulty a t i = absurd i

types_forth : (g h : EnabledGrammar) (f : Closed → Text) (keys : List Closed) → IsMacroExpansion g h f keys →
    DeclareKeyTypes g h f keys → (k : ℕ) (x : Closed) (t : GroundType) → IsGroundedIn g k x t → IsGroundedIn h k (by_name f x) t
types_forth g h f keys w d zero x t i = absurd i
types_forth g h f keys w d (suc k) x t i =
    step_forth g h f keys w d (IsGroundedIn g k) (IsGroundedIn h k) (record {
      types = λ y u j. types_forth g h f keys w d k y u j;
      has_rule = λ y u j. grounded_has_rule g h f keys w k y u j;
    }) x t i

types_back : (g h : EnabledGrammar) (f : Closed → Text) (keys : List Closed) → IsMacroExpansion g h f keys →
    DeclareKeyTypes g h f keys → (k : ℕ) (x : Closed) → HasKeyRule keys x → (t : GroundType) →
    IsGroundedIn h k (by_name f x) t →
    IsGroundedIn g k x t
types_back g h f keys w d zero x has t i = absurd i
types_back g h f keys w d (suc k) x has t i =
    step_back g h f keys w d (IsGroundedIn g k) (IsGroundedIn h k) (record {
      types = λ y a u j. types_back g h f keys w d k y a u j;
      untyped = λ y a u j. grounded_keyed g h f keys w k y a u j;
    }) x has t i

key_has_rule : (g h : EnabledGrammar) (f : Closed → Text) (keys : List Closed) → IsMacroExpansion g h f keys → (x : Closed) →
    Among keys x → HasKeyRule keys x
key_has_rule g h f keys w (Closed.terminal t) i = absurd (w.keys_only (Closed.terminal t) i)
key_has_rule g h f keys w (Closed.call n args level) i = i
key_has_rule g h f keys w (Closed.repeat op x) i = i
key_has_rule g h f keys w (Closed.group xs) i = i
key_has_rule g h f keys w (Closed.choose x) i = absurd (w.keys_only (Closed.choose x) i)
key_has_rule g h f keys w (Closed.name m n x) i = absurd (w.keys_only (Closed.name m n x) i)
key_has_rule g h f keys w Closed.lookahead i = i
key_has_rule g h f keys w Closed.lookbehind i = i
key_has_rule g h f keys w Closed.faulty i = absurd (w.keys_only Closed.faulty i)

-- where the rules of keys declare so, the types are the same
pub macros_keep_types : (g h : EnabledGrammar) (f : Closed → Text) (keys : List Closed) → IsMacroExpansion g h f keys →
    DeclareKeyTypes g h f keys → SameTypes g h (by_name f)
macros_keep_types g h f keys w d x t i =
    let has = key_has_rule g h f keys w x (in_keys g h f keys w x i) in (
      λ a. (a.0, types_forth g h f keys w d a.0 x t a.1),
      λ a. (a.0, types_back g h f keys w d a.0 x has t a.1),
    )
