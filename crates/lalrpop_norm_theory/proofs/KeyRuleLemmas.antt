-- A rule for each key keeps the expansion; for the macro pass.
use Rattle.std.specs.Str.{bytes_eq}
use Rattle.std.proofs.Common.{◌≡◌, ℕ, zero, suc, ◌+◌, List, [], ◌∷◌, refl, ap, sym, ◌∙◌, subst, inl, inr}
use Rattle.std.proofs.Common.{cond, Bool, true, false}
use Rattle.std.specs.Prelude.{Option, Some, None, map, length, is_some, if◌then◌else◌}
use Rattle.lalrpop_grammar_symbols.specs.Symbols.{Text, Terminal, WrittenSymbol, Sym, Op, Closed, Closeds, closed_list}
use Rattle.lalrpop_grammar.specs.WrittenGrammar.{Action, Origin}
use Rattle.lalrpop_grammar_language.specs.Among.{Among}
use Rattle.lalrpop_grammar_language.specs.Enabled.{EnabledRule, EnabledGrammar, Choice, IsRule, has_name}
use Rattle.lalrpop_grammar_language.specs.Levels.{Rank, ranked_choices, has_levels, loosest}
use Rattle.lalrpop_grammar_language.specs.Closing.{Scope, Binding, name_meaning, call_level, plain_name, if_plain}
use Rattle.lalrpop_grammar_language.specs.Closing.{close, close_terminal, close_list, is_sound, sound_or_faulty, scope_of, right_side}
use Rattle.lalrpop_grammar_language.specs.Closing.{occurrences}
use Rattle.lalrpop_grammar_language.specs.Conditions.{Holds}
use Rattle.lalrpop_grammar_language.specs.Admitting.{bind, rank_level, argument_list}
use Rattle.lalrpop_grammar_language.specs.Expansion.{GrammarSymbol, Nonterminal, RightSide, grammar_symbol, symbol_of_terminal, Produces}
use Rattle.lalrpop_grammar_language.specs.Expansion.{InExpansion, IsReachedIn, HasLevel, origin_with}
use Rattle.lalrpop_grammar_language.proofs.PlaceLemmas.{among_map, among_filter, same_text-eq}
use Rattle.lalrpop_grammar_language.proofs.SoundnessLemmas.{part-whole}
use Rattle.lalrpop_norm_theory.specs.Inlined.{IsInlined, SameInlined}
use Rattle.lalrpop_norm_theory.specs.Same.{rename_symbol, rename_side, SameExpansion}
use Rattle.lalrpop_grammar_language.proofs.AmongLemmas.{map_among}
use Rattle.lalrpop_norm_theory.proofs.LevelLemmas.{ranked_flat, no_levels, no_loosest, no_rank}
use Rattle.lalrpop_norm_theory.specs.KeyRules.{IsKey, IsMappedTerminal, IsWrittenFor, AreWrittenFor, by_name, nonterminal_by_name}
use Rattle.lalrpop_norm_theory.specs.KeyRules.{IsChoiceFor, AreInstanceChoices, IsOneChoice, AreTwoChoices, AreKeyChoices}
use Rattle.lalrpop_norm_theory.specs.KeyRules.{IsMacroExpansion}
use Rattle.lalrpop_norm_theory.proofs.LevelOrderLemmas.{rule_meant}

abbrev nt : Closed → GrammarSymbol Nonterminal
nt x = GrammarSymbol.nonterminal (Nonterminal.closed x)

terminal-kept : (f : Closed → Text) (t : Terminal) →
    symbol_of_terminal t ≡ rename_symbol (nonterminal_by_name f) (symbol_of_terminal t)
terminal-kept f (Terminal.quoted t) = refl
terminal-kept f (Terminal.regex t) = refl
terminal-kept f (Terminal.bare t) = refl
terminal-kept f Terminal.error = refl

-- names and choices leave no trace
symbol-by_name : (f : Closed → Text) (x : Closed) →
    grammar_symbol (by_name f x) ≡ rename_symbol (nonterminal_by_name f) (grammar_symbol x)
symbol-by_name f (Closed.terminal t) = terminal-kept f t
symbol-by_name f (Closed.call n args level) = refl
symbol-by_name f (Closed.repeat op x) = refl
symbol-by_name f (Closed.group xs) = refl
symbol-by_name f (Closed.choose x) = symbol-by_name f x
symbol-by_name f (Closed.name m n x) = symbol-by_name f x
symbol-by_name f Closed.lookahead = refl
symbol-by_name f Closed.lookbehind = refl
symbol-by_name f Closed.faulty = refl

-- the symbols of a right side by names are the renamed symbols
pub side-by_name : (f : Closed → Text) (xs : List Closed) →
    map grammar_symbol (map (by_name f) xs) ≡ rename_side (nonterminal_by_name f) (map grammar_symbol xs)
side-by_name f [] = refl
side-by_name f (x ∷ xs) =
    ap (λ p. p ∷ map grammar_symbol (map (by_name f) xs)) (symbol-by_name f x)
    ∙ ap (λ l. rename_symbol (nonterminal_by_name f) (grammar_symbol x) ∷ l) (side-by_name f xs)

-- Where symbols are read: the names of keys stand for their rules, and the bare names are those given.
pub record ReadsKeys (s : Scope) (bares : List Text) (f : Closed → Text) (K : Closed → Type 0) : Type 0 where
  pub bares_are : s.grammar.bares ≡ bares
  pub keys : (k : ℕ) (x : Closed) → K x →
      plain_name s k (f x) (name_meaning s.grammar (f x)) ≡ Closed.call (f x) Closeds.none None

key_part : (x : Closed) → IsKey x → grammar_symbol x ≡ nt x
key_part (Closed.terminal t) h = absurd h
key_part (Closed.call n args level) h = refl
key_part (Closed.repeat op x) h = refl
key_part (Closed.group xs) h = refl
key_part (Closed.choose x) h = absurd h
key_part (Closed.name m n x) h = absurd h
key_part Closed.lookahead h = refl
key_part Closed.lookbehind h = refl
key_part Closed.faulty h = absurd h

-- a key becomes a call of its name
pub key_called : (f : Closed → Text) (x : Closed) → IsKey x → by_name f x ≡ Closed.call (f x) Closeds.none None
key_called f (Closed.terminal t) h = absurd h
key_called f (Closed.call n args level) h = refl
key_called f (Closed.repeat op x) h = refl
key_called f (Closed.group xs) h = refl
key_called f (Closed.choose x) h = absurd h
key_called f (Closed.name m n x) h = absurd h
key_called f Closed.lookahead h = refl
key_called f Closed.lookbehind h = refl
key_called f Closed.faulty h = absurd h

terminal-closed : (g : EnabledGrammar) (t : Terminal) → IsMappedTerminal g.bares t → close_terminal g t ≡ Closed.terminal t
terminal-closed g (Terminal.quoted t) h = refl
terminal-closed g (Terminal.regex t) h = refl
terminal-closed g (Terminal.bare n) h =
    ap (λ b. if b then Closed.terminal (Terminal.bare n) else Closed.faulty) h
terminal-closed g Terminal.error h = refl

-- what is written for a symbol closes to what that becomes
pub close-written : (s : Scope) (bares : List Text) (f : Closed → Text) (K : Closed → Type 0) → ReadsKeys s bares f K → (k : ℕ)
    (x : Closed) (w : WrittenSymbol) →
    ((y : Closed) → grammar_symbol x ≡ nt y → K y) → IsWrittenFor bares f x w →
    close s k w ≡ by_name f x
close-written s bares f K r k x (Sym.terminal p t) known h =
    terminal-closed s.grammar t (subst (λ l. IsMappedTerminal l t) (sym r.bares_are) h.1) ∙ sym (ap (by_name f) h.0)
close-written s bares f K r k x (Sym.nonterminal p n) known h =
    ap (λ m. plain_name s k m (name_meaning s.grammar m)) h.0 ∙ r.keys k x (known x (key_part x h.1)) ∙ sym (key_called f x h.1)
close-written s bares f K r k x (Sym.choose p w) known h =
    ap Closed.choose (close-written s bares f K r k h.0 w (λ y e. known y (ap grammar_symbol h.1 ∙ e)) h.2) ∙ sym (ap (by_name f) h.1)
close-written s bares f K r k x (Sym.name p m n w) known h =
    ap (λ c. Closed.name m n c) (close-written s bares f K r k h.0 w (λ y e. known y (ap grammar_symbol h.1 ∙ e)) h.2)
    ∙ sym (ap (by_name f) h.1)
close-written s bares f K r k x (Sym.expr p ws) known h = absurd h
close-written s bares f K r k x (Sym.ambiguous_id p n) known h = absurd h
close-written s bares f K r k x (Sym.macro p n args) known h = absurd h
close-written s bares f K r k x (Sym.repeat p op w) known h = absurd h
close-written s bares f K r k x (Sym.lookahead p) known h = absurd h
close-written s bares f K r k x (Sym.lookbehind p) known h = absurd h
close-written s bares f K r k x (Sym.error p) known h = absurd h

-- and that is sound
sound-written : (bares : List Text) (f : Closed → Text) (x : Closed) (w : WrittenSymbol) → IsWrittenFor bares f x w →
    is_sound (by_name f x) ≡ true
sound-written bares f x (Sym.terminal p t) h = ap (λ c. is_sound (by_name f c)) h.0
sound-written bares f x (Sym.nonterminal p n) h = ap is_sound (key_called f x h.1)
sound-written bares f x (Sym.choose p w) h = ap (λ c. is_sound (by_name f c)) h.1 ∙ sound-written bares f h.0 w h.2
sound-written bares f x (Sym.name p m n w) h = ap (λ c. is_sound (by_name f c)) h.1 ∙ sound-written bares f h.0 w h.2
sound-written bares f x (Sym.expr p ws) h = absurd h
sound-written bares f x (Sym.ambiguous_id p n) h = absurd h
sound-written bares f x (Sym.macro p n args) h = absurd h
sound-written bares f x (Sym.repeat p op w) h = absurd h
sound-written bares f x (Sym.lookahead p) h = absurd h
sound-written bares f x (Sym.lookbehind p) h = absurd h
sound-written bares f x (Sym.error p) h = absurd h

kept-sound : (x : Closed) → is_sound x ≡ true → sound_or_faulty x ≡ x
kept-sound x h = ap (λ b. if b then x else Closed.faulty) h

close_list-written : (s : Scope) (bares : List Text) (f : Closed → Text) (K : Closed → Type 0) → ReadsKeys s bares f K → (k : ℕ)
    (xs : List Closed) (ws : List WrittenSymbol) →
    ((y : Closed) → Among (map grammar_symbol xs) (nt y) → K y) →
    AreWrittenFor bares f xs ws → close_list s k ws ≡ map (by_name f) xs
close_list-written s bares f K r k [] [] known h = refl
close_list-written s bares f K r k [] (w ∷ ws) known h = absurd h
close_list-written s bares f K r k (x ∷ xs) [] known h = absurd h
close_list-written s bares f K r k (x ∷ xs) (w ∷ ws) known h =
    let one : sound_or_faulty (close s k w) ≡ by_name f x =
    ap sound_or_faulty (close-written s bares f K r k x w (λ y e. known y (inl e)) h.0)
    ∙ kept-sound (by_name f x) (sound-written bares f x w h.0) in
    ap (λ c. c ∷ close_list s (k + occurrences s.binding s.owner w) ws) one
    ∙ ap (λ l. by_name f x ∷ l)
    (close_list-written s bares f K r (k + occurrences s.binding s.owner w) xs ws (λ y i. known y (inr i)) h.1)

pub same_either : {A : Type 0} (b : Bool) (x y z : A) → x ≡ z → y ≡ z → cond b x y ≡ z
same_either true x y z e f = e
same_either false x y z e f = f

-- an alternative of the expanded grammar has the renamed right side
pub side-written : (g h : EnabledGrammar) (f : Closed → Text) (keys : List Closed) → IsMacroExpansion g h f keys →
    (q : EnabledRule) → has_levels q ≡ false → (b : Binding) → (c : Choice) (xs : List Closed) →
    ((y : Closed) → Among (map grammar_symbol xs) (nt y) → Among keys y) →
    AreWrittenFor g.bares f xs c.expr →
    map grammar_symbol (right_side h q b (c, None)) ≡ rename_side (nonterminal_by_name f) (map grammar_symbol xs)
side-written g h f keys w q flat_q b c xs known put =
    ap (map grammar_symbol)
    (close_list-written (scope_of h q b c None) g.bares f (Among keys) (record { bares_are = w.bares; keys = reads }) 0 xs c.expr known put)
    ∙ side-by_name f xs
  where
    reads : (k : ℕ) (x : Closed) → Among keys x →
        plain_name (scope_of h q b c None) k (f x) (name_meaning h (f x)) ≡ Closed.call (f x) Closeds.none None
    reads k x i =
        let u = w.rules x i in
        ap (λ m. plain_name (scope_of h q b c None) k (f x) m) (rule_meant h (f x) u.0 u.1)
        ∙ ap (λ ps. if_plain ps (Closed.call (f x) Closeds.none (call_level (scope_of h q b c None) k (f x) u.0))) u.2.no_macro
        ∙ ap (λ l. Closed.call (f x) Closeds.none l)
        (same_either (bytes_eq (f x) q.name) (loosest q) (loosest u.0) None (no_loosest q flat_q) (no_loosest u.0 u.2.no_levels))

-- an alternative of a rule without levels is one of its alternatives
unranked : (r : EnabledRule) (p : Choice × Option Rank) → has_levels r ≡ false → Among (ranked_choices r) p → Among r.choices p.0
unranked r p e h =
    let w = among_map (λ c. (c, None)) r.choices p (subst (λ ps. Among ps p) (ranked_flat r e) h) in
    subst (λ c. Among r.choices c) (ap (λ z. z.0) w.2) w.1

told-none : (o : Origin) → origin_with [] o ≡ o
told-none (Origin.alternative n [] place) = refl
told-none (Origin.alternative n (a ∷ args) place) = refl
told-none Origin.start = refl
told-none Origin.pass_down = refl
told-none Origin.plus_one = refl
told-none Origin.plus_more = refl
told-none Origin.star_none = refl
told-none Origin.star_some = refl
told-none Origin.opt_none = refl
told-none Origin.opt_some = refl
told-none Origin.group = refl
told-none Origin.look = refl

-- an alternative, and what it is made of
abbrev pub Turned : List Text → (Closed → Text) → List Choice → Origin → RightSide → Type 0
Turned bs f cs o side = (c : Choice) × (xs : List Closed) × Among cs c × IsChoiceFor bs f o xs c × (side ≡ map grammar_symbol xs)

instance_there : (g : EnabledGrammar) (f : Closed →
    Text) (r : EnabledRule) (args : Closeds) (ps : List (Choice × Option Rank)) (cs : List Choice) →
    AreInstanceChoices g f r args ps cs → (p : Choice × Option Rank) → Among ps p → Holds g (bind r args) p.0.condition →
    (c : Choice) × Among cs c
    × IsChoiceFor g.bares f (origin_with (argument_list g.spelled args) p.0.origin) (right_side g r (bind r args) p) c
instance_there g f r args [] cs h p i holds = absurd i
instance_there g f r args (q ∷ ps) cs (inl h) p (inl e) holds = (
  h.1,
  subst (λ l. Among l h.1) (sym h.3) (inl refl),
  subst
      (λ a. IsChoiceFor g.bares f (origin_with (argument_list g.spelled args) a.0.origin) (right_side g r (bind r args) a) h.1) e h.4,
)
instance_there g f r args (q ∷ ps) cs (inl h) p (inr i) holds =
    let u = instance_there g f r args ps h.2 h.5 p i holds in (u.0, subst (λ l. Among l u.0) (sym h.3) (inr u.1), u.2)
instance_there g f r args (q ∷ ps) cs (inr h) p (inl e) holds =
    absurd (h.0 (subst (λ a. Holds g (bind r args) a.0.condition) (sym e) holds))
instance_there g f r args (q ∷ ps) cs (inr h) p (inr i) holds = instance_there g f r args ps cs h.1 p i holds

instance_only : (g : EnabledGrammar) (f : Closed →
    Text) (r : EnabledRule) (args : Closeds) (ps : List (Choice × Option Rank)) (cs : List Choice) →
    AreInstanceChoices g f r args ps cs → (c : Choice) → Among cs c →
    (p : Choice × Option Rank) × Among ps p × Holds g (bind r args) p.0.condition
    × IsChoiceFor g.bares f (origin_with (argument_list g.spelled args) p.0.origin) (right_side g r (bind r args) p) c
instance_only g f r args [] cs h c i = absurd (subst (λ l. Among l c) h i)
instance_only g f r args (q ∷ ps) cs (inl h) c i = go (subst (λ l. Among l c) h.3 i) (λ k. instance_only g f r args ps h.2 h.5 c k)
  where
    After : Type 0
    After = (p : Choice × Option Rank) × Among ps p × Holds g (bind r args) p.0.condition
        × IsChoiceFor g.bares f (origin_with (argument_list g.spelled args) p.0.origin) (right_side g r (bind r args) p) c

    go : Among (h.1 ∷ h.2) c → (Among h.2 c → After) →
        (p : Choice × Option Rank) × Among (q ∷ ps) p × Holds g (bind r args) p.0.condition
        × IsChoiceFor g.bares f (origin_with (argument_list g.spelled args) p.0.origin) (right_side g r (bind r args) p) c
    go (inl e) later = (
      q,
      inl refl,
      h.0,
      subst
          (λ d. IsChoiceFor g.bares f (origin_with (argument_list g.spelled args) q.0.origin) (right_side g r (bind r args) q) d) e h.4,
    )
    go (inr k) later = let u = later k in (u.0, inr u.1, u.2, u.3)
instance_only g f r args (q ∷ ps) cs (inr h) c i =
    let u = instance_only g f r args ps cs h.1 c i in (u.0, inr u.1, u.2, u.3)

one_there : (bs : List Text) (f : Closed →
    Text) (act : Action) (o a : Origin) (xs : List Closed) (side : RightSide) (cs : List Choice) → IsOneChoice bs f act a xs cs →
    o ≡ a → side ≡ map grammar_symbol xs → Turned bs f cs o side
one_there bs f act o a xs side cs h e s =
    (h.0, xs, subst (λ l. Among l h.0) (sym h.1) (inl refl), subst (λ b. IsChoiceFor bs f b xs h.0) (sym e) h.2, s)

first_there : (bs : List Text) (f : Closed → Text) (o a b : Origin) (xs ys : List Closed) (side : RightSide) (cs : List Choice) →
    AreTwoChoices bs f a xs b ys cs →
    o ≡ a → side ≡ map grammar_symbol xs → Turned bs f cs o side
first_there bs f o a b xs ys side cs h e s =
    (h.0, xs, subst (λ l. Among l h.0) (sym h.2) (inl refl), subst (λ c. IsChoiceFor bs f c xs h.0) (sym e) h.3, s)

second_there : (bs : List Text) (f : Closed → Text) (o a b : Origin) (xs ys : List Closed) (side : RightSide) (cs : List Choice) →
    AreTwoChoices bs f a xs b ys cs →
    o ≡ b → side ≡ map grammar_symbol ys → Turned bs f cs o side
second_there bs f o a b xs ys side cs h e s =
    (h.1, ys, subst (λ l. Among l h.1) (sym h.2) (inr (inl refl)), subst (λ c. IsChoiceFor bs f c ys h.1) (sym e) h.4, s)

-- each production of a key is one of the alternatives of its rule
pub made_there : (g : EnabledGrammar) (f : Closed → Text) →
    ((n : Text) (r : EnabledRule) → IsRule g n r → has_levels r ≡ false) →
    (x : Closed) (cs : List Choice) → AreKeyChoices g f x cs → (o : Origin) (side : RightSide) →
    Produces g (Nonterminal.closed x) o side → Turned g.bares f cs o side
made_there g f flats (Closed.terminal t) cs h o side m = absurd h
made_there g f flats (Closed.call n args (Some level)) cs h o side m = absurd h
made_there g f flats (Closed.call n args None) cs h o side (inl m) =
    let same : m.rule ∷ [] ≡ h.0 ∷ [] = sym m.fits.rule ∙ h.1 in
    let e : m.rule ≡ h.0 = cc in
    let u = instance_there g f h.0 args (ranked_choices h.0) cs h.3 m.choice
    (subst (λ r. Among (ranked_choices r) m.choice) e m.fits.written)
    (subst (λ r. Holds g (bind r args) m.choice.0.condition) e m.fits.holds) in (
      u.0,
      right_side g h.0 (bind h.0 args) m.choice,
      u.1,
      subst
          (λ a. IsChoiceFor g.bares f a (right_side g h.0 (bind h.0 args) m.choice) u.0) (sym m.origin_is) u.2,
      m.side_is ∙ ap (λ r. map grammar_symbol (right_side g r (bind r args) m.choice)) e,
    )
made_there g f flats (Closed.call n args None) cs h o side (inr m) = let e : None ≡ Some m.from = m.from_is in cc
made_there g f flats (Closed.repeat Op.plus x) cs h o side (inl m) = first_there g.bares f o Origin.plus_one Origin.plus_more (x
    ∷ []) (Closed.repeat Op.plus x ∷ x ∷ []) side cs h m.0 m.1
made_there g f flats (Closed.repeat Op.plus x) cs h o side (inr m) = second_there g.bares f o Origin.plus_one Origin.plus_more (x
    ∷ []) (Closed.repeat Op.plus x ∷ x ∷ []) side cs h m.0 m.1
made_there g f flats (Closed.repeat Op.star x) cs h o side (inl m) = first_there g.bares f o Origin.star_none Origin.star_some []
    (Closed.repeat Op.plus x ∷ []) side cs h m.0 m.1
made_there g f flats (Closed.repeat Op.star x) cs h o side (inr m) = second_there g.bares f o Origin.star_none Origin.star_some []
    (Closed.repeat Op.plus x ∷ []) side cs h m.0 m.1
made_there g f flats (Closed.repeat Op.question x) cs h o side (inl m) = second_there g.bares f o Origin.opt_some Origin.opt_none (x
    ∷ []) [] side cs h m.0 m.1
made_there g f flats (Closed.repeat Op.question x) cs h o side (inr m) = first_there g.bares f o Origin.opt_some Origin.opt_none (x
    ∷ []) [] side cs h m.0 m.1
made_there g f flats (Closed.group xs) cs h o side m = one_there g.bares f Action.default o Origin.group (closed_list xs) side cs h m.0 m.1
made_there g f flats (Closed.choose x) cs h o side m = absurd h
made_there g f flats (Closed.name a n x) cs h o side m = absurd h
made_there g f flats Closed.lookahead cs h o side m = one_there g.bares f Action.lookahead o Origin.look [] side cs h m.0 m.1
made_there g f flats Closed.lookbehind cs h o side m = one_there g.bares f Action.lookbehind o Origin.look [] side cs h m.0 m.1
made_there g f flats Closed.faulty cs h o side m = absurd h

-- what an alternative stands for
abbrev pub Stood : EnabledGrammar → (Closed → Text) → Closed → Choice → Type 0
Stood g f x c = (o : Origin) × (xs : List Closed) × Produces g (Nonterminal.closed x) o (map grammar_symbol xs)
    × IsChoiceFor g.bares f o xs c

one_only : (g : EnabledGrammar) (f : Closed →
    Text) (act : Action) (x : Closed) (a : Origin) (xs : List Closed) (cs : List Choice) (c : Choice) →
    IsOneChoice g.bares f act a xs cs → Produces g (Nonterminal.closed x) a (map grammar_symbol xs) → Among cs c → Stood g f x c
one_only g f act x a xs cs c h m i = go (subst (λ l. Among l c) h.1 i)
  where
    go : Among (h.0 ∷ []) c → Stood g f x c
    go (inl e) = (a, xs, m, subst (λ d. IsChoiceFor g.bares f a xs d) e h.2)
    go (inr k) = absurd k

two_only : (g : EnabledGrammar) (f : Closed → Text) (x : Closed) (a b : Origin) (xs ys : List Closed) (cs : List Choice) (c : Choice) →
    AreTwoChoices g.bares f a xs b ys cs → Produces g (Nonterminal.closed x) a (map grammar_symbol xs) →
    Produces g (Nonterminal.closed x) b (map grammar_symbol ys) → Among cs c → Stood g f x c
two_only g f x a b xs ys cs c h m n i = go (subst (λ l. Among l c) h.2 i)
  where
    go : Among (h.0 ∷ h.1 ∷ []) c → Stood g f x c
    go (inl e) = (a, xs, m, subst (λ d. IsChoiceFor g.bares f a xs d) e h.3)
    go (inr (inl e)) = (b, ys, n, subst (λ d. IsChoiceFor g.bares f b ys d) e h.4)
    go (inr (inr k)) = absurd k

pub made_only : (g : EnabledGrammar) (f : Closed → Text) →
    ((n : Text) (r : EnabledRule) → IsRule g n r → has_levels r ≡ false) →
    (x : Closed) (cs : List Choice) → AreKeyChoices g f x cs → (c : Choice) → Among cs c → Stood g f x c
made_only g f flats (Closed.terminal t) cs h c i = absurd h
made_only g f flats (Closed.call n args (Some level)) cs h c i = absurd h
made_only g f flats (Closed.call n args None) cs h c i =
    let u = instance_only g f h.0 args (ranked_choices h.0) cs h.3 c i in
    let flat_rank : u.0.1 ≡ None = no_rank h.0 u.0 (flats n h.0 h.1) u.1 in (
      origin_with (argument_list g.spelled args) u.0.0.origin,
      right_side g h.0 (bind h.0 args) u.0,
      inl (record {
        rule = h.0;
        choice = u.0;
        fits = record {
          rule = h.1;
          arguments = h.2;
          written = u.1;
          leveled = ap is_some flat_rank ∙ sym (flats n h.0 h.1);
          holds = u.2;
        };
        level_is = ap rank_level flat_rank;
        origin_is = refl;
        side_is = refl;
      }),
      u.3,
    )
made_only g f flats (Closed.repeat Op.plus x) cs h c i =
    two_only g f (Closed.repeat Op.plus x) Origin.plus_one Origin.plus_more (x ∷ []) (Closed.repeat Op.plus x ∷ x
    ∷ []) cs c h (inl (refl, refl)) (inr (refl, refl)) i
made_only g f flats (Closed.repeat Op.star x) cs h c i =
    two_only g f (Closed.repeat Op.star x) Origin.star_none Origin.star_some [] (Closed.repeat Op.plus x
    ∷ []) cs c h (inl (refl, refl)) (inr (refl, refl)) i
made_only g f flats (Closed.repeat Op.question x) cs h c i =
    two_only g f (Closed.repeat Op.question x) Origin.opt_some Origin.opt_none (x ∷ []) [] cs c h (inr (refl, refl)) (inl (refl, refl)) i
made_only g f flats (Closed.group xs) cs h c i = one_only g f Action.default (Closed.group xs) Origin.group (closed_list xs) cs c h
    (refl, refl) i
made_only g f flats (Closed.choose x) cs h c i = absurd h
made_only g f flats (Closed.name a n x) cs h c i = absurd h
made_only g f flats Closed.lookahead cs h c i = one_only g f Action.lookahead Closed.lookahead Origin.look [] cs c h (refl, refl) i
made_only g f flats Closed.lookbehind cs h c i = one_only g f Action.lookbehind Closed.lookbehind Origin.look [] cs c h (refl, refl) i
made_only g f flats Closed.faulty cs h c i = absurd h

-- the parts of a rule's right side that stand for a start: none
whole_part : (xs : List Closed) (n : Text) → Among (map grammar_symbol xs) (GrammarSymbol.nonterminal (Nonterminal.start n)) → ⊥
whole_part [] n h = absurd h
whole_part (x ∷ xs) n (inl e) = part-whole x n e
whole_part (x ∷ xs) n (inr h) = whole_part xs n h

-- the start's side
start_side : (g h : EnabledGrammar) (f : Closed → Text) (keys : List Closed) → IsMacroExpansion g h f keys →
    (n : Text) (r q : EnabledRule) →
    IsRule g n r → r.parameters ≡ [] → IsRule h n q → has_levels q ≡ false →
    rename_side (nonterminal_by_name f) (nt (Closed.call n Closeds.none (loosest r))
    ∷ []) ≡ nt (Closed.call n Closeds.none (loosest q)) ∷ []
start_side g h f keys w n r q i ps j flat_q =
    ap (λ l. nt (Closed.call (f (Closed.call n Closeds.none l)) Closeds.none None) ∷ []) (no_loosest r (w.no_levels n r i))
    ∙ ap (λ m. nt (Closed.call m Closeds.none None) ∷ []) (w.plain n r i ps).1
    ∙ ap (λ l. nt (Closed.call n Closeds.none l) ∷ []) (sym (no_loosest q flat_q))

-- whatever rule has a name of the expanded grammar is the rule of a key
one_rule : (h : EnabledGrammar) (n : Text) (q p : EnabledRule) → IsRule h n q → IsRule h n p → q ≡ p
one_rule h n q p i j = let e : q ∷ [] ≡ p ∷ [] = sym i ∙ j in cc

-- each symbol of the expansion has a key
level_none : (r : EnabledRule) (level : Option ℕ) → has_levels r ≡ false → HasLevel r level → level ≡ None
level_none r None e h = refl
level_none r (Some l) e h = absurd (subst (λ ls. Among ls l) (no_levels r e) h)

abbrev pub HasKey : List Closed → Nonterminal → Type 0
HasKey keys (Nonterminal.start n) = Unit {0}
HasKey keys (Nonterminal.closed x) = Among keys x

pub has_key : (g h : EnabledGrammar) (f : Closed → Text) (keys : List Closed) → IsMacroExpansion g h f keys →
    (n : ℕ) (x : Nonterminal) → IsReachedIn g n x → HasKey keys x
has_key g h f keys w n (Nonterminal.start m) r = tt
has_key g h f keys w zero (Nonterminal.closed x) (inl b) = let e : Nonterminal.closed x ≡ Nonterminal.start b.0 = b.2 in cc
has_key g h f keys w zero (Nonterminal.closed x) (inr b) =
    let e : Nonterminal.closed x ≡ Nonterminal.closed (Closed.call b.0.name Closeds.none b.1) = b.5 in
    let same : x ≡ Closed.call b.0.name Closeds.none b.1 = cc in
    let lev : b.1 ≡ None = level_none b.0 b.1 (w.no_levels b.0.name b.0 b.2) b.4 in
    subst (Among keys) (sym (same ∙ ap (λ l. Closed.call b.0.name Closeds.none l) lev)) (w.plain b.0.name b.0 b.2 b.3).0
has_key g h f keys w (suc n) (Nonterminal.closed x) (Nonterminal.start m, o, side, r, mk, i) =
    go (subst (λ s. Among s (nt x)) mk.5 i)
  where
    go : Among (nt (Closed.call m Closeds.none (loosest mk.0)) ∷ []) (nt x) → Among keys x
    go (inl e) =
        let same : Closed.call m Closeds.none (loosest mk.0) ≡ x = cc in
        subst (Among keys) (ap (λ l. Closed.call m Closeds.none l) (sym (no_loosest mk.0 (w.no_levels m mk.0 mk.1)))
        ∙ same) (w.plain m mk.0 mk.1 mk.2).0
    go (inr k) = absurd k
has_key g h f keys w (suc n) (Nonterminal.closed x) (Nonterminal.closed y, o, side, r, mk, i) =
    w.closed y x o side (has_key g h f keys w n (Nonterminal.closed y) r) mk i

-- each closed symbol in the expansion of a grammar whose macros are expanded is a key
pub in_keys : (g h : EnabledGrammar) (f : Closed → Text) (keys : List Closed) → IsMacroExpansion g h f keys → (x : Closed) →
    InExpansion g (Nonterminal.closed x) → Among keys x
in_keys g h f keys w x i = has_key g h f keys w i.0 (Nonterminal.closed x) i.1

-- a production there
pub makes_there : (g h : EnabledGrammar) (f : Closed → Text) (keys : List Closed) → IsMacroExpansion g h f keys →
    (x : Nonterminal) (o : Origin) (side : RightSide) →
    InExpansion g x → Produces g x o side → Produces h (nonterminal_by_name f x) o (rename_side (nonterminal_by_name f) side)
makes_there g h f keys w (Nonterminal.start n) o side i m =
    let k = w.plain n m.0 m.1 m.2 in
    let u = w.rules (Closed.call n Closeds.none None) k.0 in
    let q_is : IsRule h n u.0 = subst (λ t. IsRule h t u.0) k.1 u.1 in (
      u.0,
      q_is,
      u.2.no_macro,
      w.public n m.0 u.0 m.1 m.2 q_is ∙ m.3,
      m.4,
      ap (rename_side (nonterminal_by_name f)) m.5 ∙ start_side g h f keys w n m.0 u.0 m.1 m.2 q_is u.2.no_levels,
    )
makes_there g h f keys w (Nonterminal.closed x) o side i m =
    let k = in_keys g h f keys w x i in
    let u = w.rules x k in
    let t = made_there g f w.no_levels x u.0.choices u.2.choices o side m in
    subst (λ z. Produces h (Nonterminal.closed z) o (rename_side (nonterminal_by_name f) side))
    (sym (key_called f x (w.keys_only x k))) (inl (record {
      rule = u.0;
      choice = (t.0, None);
      fits = record {
        rule = u.1;
        arguments = sym (ap length u.2.no_macro);
        written = subst (λ ps. Among ps (t.0, None)) (sym (ranked_flat u.0 u.2.no_levels))
            (map_among (λ c. (c, None)) u.0.choices t.0 t.2);
        leveled = sym u.2.no_levels;
        holds = subst (Holds h (bind u.0 Closeds.none)) (sym t.3.unconditional) tt;
      };
      level_is = refl;
      origin_is = sym (told-none t.0.origin ∙ t.3.origin);
      side_is =
          ap (rename_side (nonterminal_by_name f)) t.4
          ∙ sym (side-written g h f keys w u.0 u.2.no_levels (bind u.0 Closeds.none) t.0 t.1
          (λ y j. w.closed x y o side k m (subst (λ s. Among s (nt y)) (sym t.4) j)) t.3.symbols);
    }))

-- and no other
start_back : (g h : EnabledGrammar) (f : Closed → Text) (keys : List Closed) → IsMacroExpansion g h f keys →
    (n : Text) (o : Origin) (side : RightSide) →
    Produces h (Nonterminal.start n) o side →
    (before : RightSide) × Produces g (Nonterminal.start n) o before × (side ≡ rename_side (nonterminal_by_name f) before)
start_back g h f keys w n o side m =
    let x = w.no_other n m.0 m.1 in
    let p = w.private x.0 m.0 x.1 (subst (λ t. IsRule h t m.0) x.2 m.1) m.3 in
    let named_so : n ≡ p.0 = x.2 ∙ ap f p.2 ∙ (w.plain p.0 p.1 p.3 p.4).1 in
    found p.1 (subst (λ t. IsRule g t p.1) (sym named_so) p.3) p.4
  where
    found : (r : EnabledRule) → IsRule g n r → (r.parameters ≡ []) →
        (before : RightSide) × Produces g (Nonterminal.start n) o before × (side ≡ rename_side (nonterminal_by_name f) before)
    found r is ps =
        let k = w.plain n r is ps in
        let u = w.rules (Closed.call n Closeds.none None) k.0 in
        let q_is : IsRule h n u.0 = subst (λ t. IsRule h t u.0) k.1 u.1 in
        let e : m.0 ≡ u.0 = one_rule h n m.0 u.0 m.1 q_is in
        let no_level : has_levels m.0 ≡ false = ap has_levels e ∙ u.2.no_levels in (
          nt (Closed.call n Closeds.none (loosest r)) ∷ [],
          (r, is, ps, sym (w.public n r m.0 is ps m.1) ∙ m.3, m.4, refl),
          m.5 ∙ sym (start_side g h f keys w n r m.0 is ps m.1 no_level),
        )

pub made_there_so : (g h : EnabledGrammar) (f : Closed → Text) (keys : List Closed) → IsMacroExpansion g h f keys →
    (x : Nonterminal) (o : Origin) (side : RightSide) →
    InExpansion g x → Produces h (nonterminal_by_name f x) o side →
    (before : RightSide) × Produces g x o before × (side ≡ rename_side (nonterminal_by_name f) before)
made_there_so g h f keys w (Nonterminal.start n) o side i m = start_back g h f keys w n o side m
made_there_so g h f keys w (Nonterminal.closed x) o side i m =
    let k = in_keys g h f keys w x i in
    go k (subst (λ z. Produces h (Nonterminal.closed z) o side) (key_called f x (w.keys_only x k)) m)
  where
    go : Among keys x → Produces h (Nonterminal.closed (Closed.call (f x) Closeds.none None)) o side →
        (before : RightSide) × Produces g (Nonterminal.closed x) o before × (side ≡ rename_side (nonterminal_by_name f) before)
    go k (inr b) = let e : None ≡ Some b.from = b.from_is in cc
    go k (inl b) =
        let u = w.rules x k in
        let e : b.rule ≡ u.0 = one_rule h (f x) b.rule u.0 b.fits.rule u.1 in
        let flat_b : has_levels b.rule ≡ false = ap has_levels e ∙ u.2.no_levels in
        let c_in : Among u.0.choices b.choice.0 = subst (λ r. Among r.choices b.choice.0) e
        (unranked b.rule b.choice flat_b b.fits.written) in
        let t = made_only g f w.no_levels x u.0.choices u.2.choices b.choice.0 c_in in
        let rank : b.choice.1 ≡ None = no_rank b.rule b.choice flat_b b.fits.written in
        let pair_is : b.choice ≡ (b.choice.0, None) = ap (λ r. (b.choice.0, r)) rank in
        let o_is : o ≡ t.0 = b.origin_is ∙ told-none b.choice.0.origin ∙ t.3.origin in (
          map grammar_symbol t.1,
          subst (λ a. Produces g (Nonterminal.closed x) a (map grammar_symbol t.1)) (sym o_is) t.2,
          b.side_is
              ∙ ap (λ p. map grammar_symbol (right_side h b.rule (bind b.rule Closeds.none) p)) pair_is
              ∙ side-written g h f keys w b.rule flat_b (bind b.rule Closeds.none) b.choice.0 t.1
              (λ y j. w.closed x y t.0 (map grammar_symbol t.1) k t.2 j) t.3.symbols,
        )

-- the rule that a grammar has by a name bears that name
pub rule_name : (h : EnabledGrammar) (n : Text) (q : EnabledRule) → IsRule h n q → q.name ≡ n
rule_name h n q i =
    let w = among_filter (has_name n) h.rules q (subst (λ l. Among l q) (sym i) (inl refl)) in
    same_text-eq q.name n w.1

-- reached symbols are reached there
there_in : (g h : EnabledGrammar) (f : Closed → Text) (keys : List Closed) → IsMacroExpansion g h f keys →
    (n : ℕ) (x : Nonterminal) → IsReachedIn g n x → InExpansion h (nonterminal_by_name f x)
there_in g h f keys w zero x (inl b) =
    let m : Produces g (Nonterminal.start b.0) Origin.start b.1 = b.3 in
    let n = makes_there g h f keys w (Nonterminal.start b.0) Origin.start b.1 (zero, inl (b.0, b.1, refl, m)) m in
    subst (λ z. InExpansion h (nonterminal_by_name f z)) (sym b.2) (zero, inl (b.0, rename_side (nonterminal_by_name f) b.1, refl, n))
there_in g h f keys w zero x (inr b) =
    let k = w.plain b.0.name b.0 b.2 b.3 in
    let u = w.rules (Closed.call b.0.name Closeds.none None) k.0 in
    let lev : b.1 ≡ None = level_none b.0 b.1 (w.no_levels b.0.name b.0 b.2) b.4 in
    let q_is : IsRule h b.0.name u.0 = subst (λ t. IsRule h t u.0) k.1 u.1 in
    let name_is = rule_name h b.0.name u.0 q_is in
    let head_is : nonterminal_by_name f x ≡ Nonterminal.closed (Closed.call u.0.name Closeds.none None) =
    ap (nonterminal_by_name f) b.5
    ∙ ap (λ l. Nonterminal.closed (Closed.call (f (Closed.call b.0.name Closeds.none l)) Closeds.none None)) lev
    ∙ ap (λ t. Nonterminal.closed (Closed.call t Closeds.none None)) (k.1 ∙ sym name_is) in
    subst (InExpansion h) (sym head_is)
    (zero, inr (u.0, None, subst (λ t. IsRule h t u.0) (sym name_is) q_is, u.2.no_macro, u.2.no_levels, refl))
there_in g h f keys w (suc n) x (y, o, side, r, m, i) =
    let z = there_in g h f keys w n y r in (
      suc z.0,
      (
        nonterminal_by_name f y,
        o,
        rename_side (nonterminal_by_name f) side,
        z.1,
        makes_there g h f keys w y o side
            (n, r) m,
        map_among (rename_symbol (nonterminal_by_name f)) side (GrammarSymbol.nonterminal x) i,
      ),
    )

-- what is reached there comes from what is reached
abbrev pub From : EnabledGrammar → (Closed → Text) → Nonterminal → Type 0
From g f y = (x : Nonterminal) × InExpansion g x × (y ≡ nonterminal_by_name f x)

all_from : (g h : EnabledGrammar) (f : Closed → Text) (keys : List Closed) → IsMacroExpansion g h f keys →
    (n : ℕ) (y : Nonterminal) → IsReachedIn h n y → From g f y
all_from g h f keys w zero y (inl b) =
    let m = start_back g h f keys w b.0 Origin.start b.1 b.3 in
    (Nonterminal.start b.0, (zero, inl (b.0, m.0, refl, m.1)), b.2)
all_from g h f keys w zero y (inr b) =
    let x = w.no_other b.0.name b.0 b.2 in
    let u = w.rules x.0 x.1 in
    let q_is : IsRule h (f x.0) b.0 = subst (λ t. IsRule h t b.0) x.2 b.2 in
    let e : b.0 ≡ u.0 = one_rule h (f x.0) b.0 u.0 q_is u.1 in
    let lev : b.1 ≡ None = level_none b.0 b.1 (ap has_levels e ∙ u.2.no_levels) b.4 in (
      Nonterminal.closed x.0,
      w.reached x.0 x.1,
      b.5 ∙ ap (λ l. Nonterminal.closed (Closed.call b.0.name Closeds.none l)) lev
          ∙ ap (λ t. Nonterminal.closed (Closed.call t Closeds.none None)) x.2
          ∙ sym (ap Nonterminal.closed (key_called f x.0 (w.keys_only x.0 x.1))),
    )
all_from g h f keys w (suc n) y (z, o, side, r, m, i) =
    let p = all_from g h f keys w n z r in
    let b = made_there_so g h f keys w p.0 o side p.1 (subst (λ a. Produces h a o side) p.2 m) in
    go p.0 p.1 b.0 b.1 (among_map (rename_symbol (nonterminal_by_name f)) b.0 (GrammarSymbol.nonterminal y)
    (subst (λ s. Among s (GrammarSymbol.nonterminal y)) b.2 i))
  where
    of_part : (x : Nonterminal) → InExpansion g x → (before : RightSide) → Produces g x o before →
        (q : GrammarSymbol Nonterminal) → Among before q → rename_symbol (nonterminal_by_name f) q ≡ GrammarSymbol.nonterminal y →
        From g f y
    of_part x i before m (GrammarSymbol.terminal t) j e = cc
    of_part x i before m (GrammarSymbol.nonterminal v) j e =
        let same : nonterminal_by_name f v ≡ y = cc in
        (v, (suc i.0, (x, o, before, i.1, m, j)), sym same)

    go : (x : Nonterminal) → InExpansion g x → (before : RightSide) → Produces g x o before →
        (q : GrammarSymbol Nonterminal) × Among before q × (rename_symbol (nonterminal_by_name f) q ≡ GrammarSymbol.nonterminal y) →
        From g f y
    go x i before m q = of_part x i before m q.0 q.1 q.2

heads_apart : (g h : EnabledGrammar) (f : Closed → Text) (keys : List Closed) → IsMacroExpansion g h f keys → (x y : Nonterminal) →
    InExpansion g x → InExpansion g y → nonterminal_by_name f x ≡ nonterminal_by_name f y → x ≡ y
heads_apart g h f keys w (Nonterminal.start n) (Nonterminal.start m) i j e = e
heads_apart g h f keys w (Nonterminal.start n) (Nonterminal.closed y) i j e = cc
heads_apart g h f keys w (Nonterminal.closed x) (Nonterminal.start m) i j e = cc
heads_apart g h f keys w (Nonterminal.closed x) (Nonterminal.closed y) i j e =
    let k = in_keys g h f keys w x i in
    let l = in_keys g h f keys w y j in
    let same : by_name f x ≡ by_name f y = cc in
    let calls : Closed.call (f x) Closeds.none None ≡ Closed.call (f y) Closeds.none None =
    sym (key_called f x (w.keys_only x k)) ∙ same ∙ key_called f y (w.keys_only y l) in
    let names : f x ≡ f y = cc in
    ap Nonterminal.closed (w.apart x y k l names)

-- a rule for each key keeps the expansion
pub expanded : (g h : EnabledGrammar) (f : Closed → Text) (keys : List Closed) → IsMacroExpansion g h f keys →
    SameExpansion g h (nonterminal_by_name f)
expanded g h f keys w = record {
  apart = heads_apart g h f keys w;
  starts = λ n. refl;
  there = λ x i. there_in g h f keys w i.0 x i.1;
  no_other = λ y i. all_from g h f keys w i.0 y i.1;
  produces = makes_there g h f keys w;
  produces_no_other = made_there_so g h f keys w;
}

-- and the same nonterminals are inlined
pub expanded_inlined : (g h : EnabledGrammar) (f : Closed → Text) (keys : List Closed) → IsMacroExpansion g h f keys →
    SameInlined g h (nonterminal_by_name f)
expanded_inlined g h f keys w (Nonterminal.start n) i = (λ a. a, λ a. a)
expanded_inlined g h f keys w (Nonterminal.closed x) i =
    let k = in_keys g h f keys w x i in
    let u = w.rules x k in
    let e = ap Nonterminal.closed (key_called f x (w.keys_only x k)) in (
      λ a. subst (IsInlined h) (sym e) (u.0, u.1, u.2.inlined.1 a),
      λ a. let b = subst (IsInlined h) e a in
          u.2.inlined.0 (subst (λ q. q.inlined ≡ true) (one_rule h (f x) b.0 u.0 b.1 u.1) b.2),
    )
