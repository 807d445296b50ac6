-- In a right grammar keys and what stands in them can be written back, and have rules of their own; for the rules of keys.
use Rattle.std.proofs.Common.{◌≡◌, ℕ, zero, suc, List, [], ◌∷◌, refl, ap, sym, ◌∙◌, subst, inl, inr, map, length}
use Rattle.std.specs.Prelude.{◌⊎◌, Option, Some, None}
use Rattle.lalrpop_grammar_symbols.specs.Symbols.{Text, Terminal, Op, Closed, Closeds, closed_list}
use Rattle.lalrpop_grammar.specs.WrittenGrammar.{Origin}
use Rattle.lalrpop_grammar_language.specs.Among.{Among}
use Rattle.lalrpop_grammar_language.specs.Enabled.{EnabledGrammar, EnabledRule, Choice, IsRule}
use Rattle.lalrpop_grammar_language.specs.Levels.{Rank, ranked_choices}
use Rattle.lalrpop_grammar_language.specs.Closing.{right_side}
use Rattle.lalrpop_grammar_language.specs.Admitting.{bind}
use Rattle.lalrpop_grammar_language.specs.Expansion.{GrammarSymbol, IsRoot, Nonterminal, Produces, RightSide, grammar_symbol}
use Rattle.lalrpop_grammar_language.proofs.PlaceLemmas.{among_map}
use Rattle.lalrpop_norm_theory.specs.Depth.{CallOccursIn, HasCallChain, calls_in, calls_in_all, calls_in_grammar_symbol}
use Rattle.lalrpop_norm_theory.specs.Premises.{HasNoLevels}
use Rattle.lalrpop_norm_theory.specs.Rounds.{AreCallsToDepth}
use Rattle.lalrpop_grammar_language.proofs.OrderLemmas.{among_parts}
use Rattle.lalrpop_norm_theory.proofs.ExpansionListLemmas.{rule_there}
use Rattle.lalrpop_norm_theory.proofs.LevelLemmas.{ranked_flat}
use Rattle.lalrpop_norm_theory.specs.KeyRules.{IsKey}
use Rattle.lalrpop_norm_theory.specs.KeyTables.{IsKeyTable, IsMetKey, IsNoCall, IsPlainKey, KeyStandsIn, keys_in, keys_in_all}
use Rattle.lalrpop_norm_theory.proofs.KeyTableLemmas.{stands_trans}
use Rattle.lalrpop_norm_theory.specs.KeyTypes.{HasKeyRule}
use Rattle.lalrpop_norm_keys.proofs.FoundLemmas.{chain_is_call}
use Rattle.lalrpop_norm_keys.proofs.RightCallLemmas.{IsRightCall, chain_right}
use Rattle.lalrpop_norm_keys.proofs.SymbolLemmas.{same_keys}
use Rattle.lalrpop_norm_theory.proofs.OccurringLemmas.{calls_of_symbol}
use Rattle.lalrpop_norm_macros.specs.KeyedSymbols.{AreKeyed, IsMappedSymbol}
use Rattle.lalrpop_norm_macros.specs.UsableSymbols.{AreUsable, IsRightGrammar, IsUsable}
use Rattle.lalrpop_norm_macros.proofs.UsableLemmas.{side_usable}

-- what stands in a symbol that can be written back can be, too

mutual
  calls_usable : (bares : List Text) (x c : Closed) → IsUsable bares x → Among (calls_in x) c → IsUsable bares c
  calls_usable bares (Closed.terminal t) c u i = absurd i
  calls_usable bares (Closed.call n Closeds.none level) c u i = absurd i
  calls_usable bares (Closed.call n (Closeds.more y ys) level) c u (inl e) = subst (IsUsable bares) e u
  calls_usable bares (Closed.call n (Closeds.more y ys) level) c u (inr i) = absurd i
  calls_usable bares (Closed.repeat op x) c u i = calls_usable bares x c u i
  calls_usable bares (Closed.group xs) c u i = all_calls_usable bares xs c u i
  calls_usable bares (Closed.choose x) c u i = calls_usable bares x c u i
  calls_usable bares (Closed.name m n x) c u i = calls_usable bares x c u i
  calls_usable bares Closed.lookahead c u i = absurd i
  calls_usable bares Closed.lookbehind c u i = absurd i
  calls_usable bares Closed.faulty c u i = absurd i

  all_calls_usable : (bares : List Text) (xs : Closeds) (c : Closed) → AreUsable bares xs → Among (calls_in_all xs) c
      → IsUsable bares c
  all_calls_usable bares Closeds.none c u i = absurd i
  all_calls_usable bares (Closeds.more x xs) c u i =
      either (among_parts (calls_in x) (calls_in_all xs) c i) (λ j. calls_usable bares x c u.0 j) (λ j. all_calls_usable bares xs c u.1 j)
    where
      either : Among (calls_in x) c ⊎ Among (calls_in_all xs) c → (Among (calls_in x) c → IsUsable bares c)
          → (Among (calls_in_all xs) c → IsUsable bares c) → IsUsable bares c
      either (inl j) a b = a j
      either (inr j) a b = b j

abbrev IsUsableKey : List Text → Closed → Type 0
IsUsableKey bares z = IsUsable bares z × IsKey z

mutual
  keys_usable : (bares : List Text) (x z : Closed) → IsUsable bares x → Among (keys_in x) z → IsUsableKey bares z
  keys_usable bares (Closed.terminal (Terminal.quoted t)) z u i = absurd i
  keys_usable bares (Closed.terminal (Terminal.regex t)) z u i = absurd i
  keys_usable bares (Closed.terminal (Terminal.bare n)) z u i = absurd i
  keys_usable bares (Closed.terminal Terminal.error) z u i = absurd u
  keys_usable bares (Closed.call n args level) z u (inl e) = subst (IsUsableKey bares) e (u, tt)
  keys_usable bares (Closed.call n args level) z u (inr i) = absurd i
  keys_usable bares (Closed.repeat Op.plus x) z u (inl e) = subst (IsUsableKey bares) e (u, tt)
  keys_usable bares (Closed.repeat Op.plus x) z u (inr i) = keys_usable bares x z u i
  keys_usable bares (Closed.repeat Op.star x) z u (inl e) = subst (IsUsableKey bares) e (u, tt)
  keys_usable bares (Closed.repeat Op.star x) z u (inr (inl e)) = subst (IsUsableKey bares) e (u, tt)
  keys_usable bares (Closed.repeat Op.star x) z u (inr (inr i)) = keys_usable bares x z u i
  keys_usable bares (Closed.repeat Op.question x) z u (inl e) = subst (IsUsableKey bares) e (u, tt)
  keys_usable bares (Closed.repeat Op.question x) z u (inr i) = keys_usable bares x z u i
  keys_usable bares (Closed.group xs) z u (inl e) = subst (IsUsableKey bares) e (u, tt)
  keys_usable bares (Closed.group xs) z u (inr i) = all_keys_usable bares xs z u i
  keys_usable bares (Closed.choose x) z u i = keys_usable bares x z u i
  keys_usable bares (Closed.name m n x) z u i = keys_usable bares x z u i
  keys_usable bares Closed.lookahead z u (inl e) = subst (IsUsableKey bares) e (u, tt)
  keys_usable bares Closed.lookahead z u (inr i) = absurd i
  keys_usable bares Closed.lookbehind z u (inl e) = subst (IsUsableKey bares) e (u, tt)
  keys_usable bares Closed.lookbehind z u (inr i) = absurd i
  keys_usable bares Closed.faulty z u i = absurd u

  all_keys_usable : (bares : List Text) (xs : Closeds) (z : Closed) → AreUsable bares xs → Among (keys_in_all xs) z
      → IsUsableKey bares z
  all_keys_usable bares Closeds.none z u i = absurd i
  all_keys_usable bares (Closeds.more x xs) z u i =
      either (among_parts (keys_in x) (keys_in_all xs) z i) (λ j. keys_usable bares x z u.0 j) (λ j. all_keys_usable bares xs z u.1 j)
    where
      either : Among (keys_in x) z ⊎ Among (keys_in_all xs) z → (Among (keys_in x) z → IsUsableKey bares z)
          → (Among (keys_in_all xs) z → IsUsableKey bares z) → IsUsableKey bares z
      either (inl j) a b = a j
      either (inr j) a b = b j

-- a call is a key
call_is_key : (x : Closed) → (IsNoCall x → ⊥) → IsKey x
call_is_key (Closed.call n args level) h = tt
call_is_key (Closed.terminal t) h = absurd (h tt)
call_is_key (Closed.repeat op x) h = tt
call_is_key (Closed.group xs) h = tt
call_is_key (Closed.choose x) h = absurd (h tt)
call_is_key (Closed.name m n x) h = absurd (h tt)
call_is_key Closed.lookahead h = tt
call_is_key Closed.lookbehind h = tt
call_is_key Closed.faulty h = absurd (h tt)

-- a symbol whose keys are there can be written by names

keyed_rule : (bares : List Text) (keys : List Closed) (x : Closed) → IsUsable bares x
    → ((z : Closed) → Among (keys_in x) z → Among keys z)
    → HasKeyRule keys x
keyed_rule bares keys (Closed.terminal (Terminal.quoted t)) u w = tt
keyed_rule bares keys (Closed.terminal (Terminal.regex t)) u w = tt
keyed_rule bares keys (Closed.terminal (Terminal.bare n)) u w = tt
keyed_rule bares keys (Closed.terminal Terminal.error) u w = absurd u
keyed_rule bares keys (Closed.call n args level) u w = w (Closed.call n args level) (inl refl)
keyed_rule bares keys (Closed.repeat Op.plus x) u w = w (Closed.repeat Op.plus x) (inl refl)
keyed_rule bares keys (Closed.repeat Op.star x) u w = w (Closed.repeat Op.star x) (inl refl)
keyed_rule bares keys (Closed.repeat Op.question x) u w = w (Closed.repeat Op.question x) (inl refl)
keyed_rule bares keys (Closed.group xs) u w = w (Closed.group xs) (inl refl)
keyed_rule bares keys (Closed.choose x) u w = keyed_rule bares keys x u w
keyed_rule bares keys (Closed.name m n x) u w = keyed_rule bares keys x u w
keyed_rule bares keys Closed.lookahead u w = w Closed.lookahead (inl refl)
keyed_rule bares keys Closed.lookbehind u w = w Closed.lookbehind (inl refl)
keyed_rule bares keys Closed.faulty u w = absurd u

-- a bare name in a symbol that can be written back is mapped
pub usable_mapped : (bares : List Text) (x : Closed) → IsUsable bares x → IsMappedSymbol bares x
usable_mapped bares (Closed.terminal (Terminal.quoted t)) u = tt
usable_mapped bares (Closed.terminal (Terminal.regex t)) u = tt
usable_mapped bares (Closed.terminal (Terminal.bare n)) u = u
usable_mapped bares (Closed.terminal Terminal.error) u = absurd u
usable_mapped bares (Closed.call n args level) u = tt
usable_mapped bares (Closed.repeat op x) u = tt
usable_mapped bares (Closed.group xs) u = tt
usable_mapped bares (Closed.choose x) u = usable_mapped bares x u
usable_mapped bares (Closed.name m n x) u = usable_mapped bares x u
usable_mapped bares Closed.lookahead u = tt
usable_mapped bares Closed.lookbehind u = tt
usable_mapped bares Closed.faulty u = absurd u

-- symbols that can be written back, with each of their keys in the list, have a rule or are mapped terminals
pub all_keyed : (bares : List Text) (keys xs : List Closed) → ((x : Closed) → Among xs x → IsUsable bares x)
    → ((x z : Closed) → Among xs x → Among (keys_in x) z → Among keys z) → AreKeyed bares keys xs
all_keyed bares keys [] u w = tt
all_keyed bares keys (x ∷ xs) u w = (
  keyed_rule bares keys x (u x (inl refl)) (λ z i. w x z (inl refl) i),
  usable_mapped bares x (u x (inl refl)),
  all_keyed bares keys xs (λ y i. u y (inr i)) (λ y z i j. w y z (inr i) j),
)

-- the symbols of a right side
module _ (g : EnabledGrammar) (right : IsRightGrammar g) (flat : HasNoLevels g) where
  abbrev IsUsableFor : GrammarSymbol Nonterminal → Type 0
  IsUsableFor s = (x : Closed) × IsUsable g.bares x × (grammar_symbol x ≡ s)

  one_symbol : (x : Closed) (side : RightSide) (s : GrammarSymbol Nonterminal) → IsUsable g.bares x → side ≡ grammar_symbol x ∷ []
      → Among side s → IsUsableFor s
  one_symbol x side s u e i = go (subst (λ l. Among l s) e i)
    where
      go : Among (grammar_symbol x ∷ []) s → IsUsableFor s
      go (inl k) = (x, u, k)
      go (inr k) = absurd k

  listed_symbols : (xs : Closeds) → AreUsable g.bares xs → (s : GrammarSymbol Nonterminal)
      → Among (map grammar_symbol (closed_list xs)) s → IsUsableFor s
  listed_symbols Closeds.none u s i = absurd i
  listed_symbols (Closeds.more x xs) u s (inl e) = (x, u.0, e)
  listed_symbols (Closeds.more x xs) u s (inr i) = listed_symbols xs u.1 s i

  no_symbol : (side : RightSide) (s : GrammarSymbol Nonterminal) → side ≡ [] → Among side s → IsUsableFor s
  no_symbol side s e i = absurd (subst (λ l. Among l s) e i)

  pub rule_side_usable : (n : Text) (args : Closeds) (r : EnabledRule) → IsRule g n r → AreUsable g.bares args
      → length (closed_list args) ≡ length r.parameters → (p : Choice × Option Rank) → Among (ranked_choices r) p → (x : Closed)
      → Among (right_side g r (bind r args) p) x → IsUsable g.bares x
  rule_side_usable n args r i u full p j x k =
      let there = (rule_there g n r i).0 in
      let m = among_map (λ (c : Choice). (c, None)) r.choices p (subst (λ ps. Among ps p) (ranked_flat r (flat r there)) j) in
      side_usable g right r there args u full p.0 (subst (Among r.choices) (ap (λ (q : Choice × Option Rank). q.0) m.2) m.1) p.1 x k

  side_symbols : (y : Closed) (o : Origin) (side : RightSide) → IsUsable g.bares y → Produces g (Nonterminal.closed y) o side
      → (s : GrammarSymbol Nonterminal) → Among side s → IsUsableFor s
  side_symbols (Closed.call n args level) o side u (inl b) s i =
      let m = among_map grammar_symbol (right_side g b.rule (bind b.rule args) b.choice) s (subst (λ l. Among l s) b.side_is i) in
      (m.0, rule_side_usable n args b.rule b.fits.rule u b.fits.arguments b.choice b.fits.written m.0 m.1, m.2)
  side_symbols (Closed.call n args level) o side u (inr b) s i = one_symbol (Closed.call n args (Some b.to)) side s u b.side_is i
  side_symbols (Closed.repeat Op.plus x) o side u (inl m) s i = one_symbol x side s u m.1 i
  side_symbols (Closed.repeat Op.plus x) o side u (inr m) s i =
      listed_symbols (Closeds.more (Closed.repeat Op.plus x) (Closeds.more x Closeds.none)) (u, (u, tt)) s (subst (λ l. Among l s) m.1 i)
  side_symbols (Closed.repeat Op.star x) o side u (inl m) s i = no_symbol side s m.1 i
  side_symbols (Closed.repeat Op.star x) o side u (inr m) s i = one_symbol (Closed.repeat Op.plus x) side s u m.1 i
  side_symbols (Closed.repeat Op.question x) o side u (inl m) s i = no_symbol side s m.1 i
  side_symbols (Closed.repeat Op.question x) o side u (inr m) s i = one_symbol x side s u m.1 i
  side_symbols (Closed.group xs) o side u m s i = listed_symbols xs u s (subst (λ l. Among l s) m.1 i)
  side_symbols Closed.lookahead o side u m s i = no_symbol side s m.1 i
  side_symbols Closed.lookbehind o side u m s i = no_symbol side s m.1 i
  side_symbols (Closed.terminal t) o side u m s i = absurd m
  side_symbols (Closed.choose x) o side u m s i = absurd m
  side_symbols (Closed.name a n x) o side u m s i = absurd m
  side_symbols Closed.faulty o side u m s i = absurd m

  occurs_usable : (y x : Closed) → IsUsable g.bares y → CallOccursIn g y x → IsUsable g.bares x
  occurs_usable y x u o =
      let m = side_symbols y o.origin o.side u o.produced o.symbol o.in_side in
      calls_usable g.bares m.0 x m.1
      (subst (λ l. Among l x) (calls_of_symbol m.0) (subst (λ s. Among (calls_in_grammar_symbol s) x) (sym m.2) o.call_is))

  stands_usable : (y z : Closed) → IsUsable g.bares y → KeyStandsIn g y z → IsUsableKey g.bares z
  stands_usable y z u k =
      let m = side_symbols y k.origin k.side u k.produced (grammar_symbol k.symbol) k.in_side in
      keys_usable g.bares m.0 z m.1 (subst (λ l. Among l z) (sym (same_keys m.0 k.symbol m.2)) k.stands)

  root_usable : (y : Closed) → IsRoot g (Nonterminal.closed y) → IsUsable g.bares y
  root_usable y (inl (n, side, e, m)) = cc
  root_usable y (inr (r, level, i, ps, h, e)) =
      let same : Closed.call r.name Closeds.none level ≡ y = cc in subst (IsUsable g.bares) same tt

  chain_usable : (k : ℕ) (x : Closed) → HasCallChain g k x → IsUsable g.bares x
  chain_usable zero x c = absurd c
  chain_usable (suc zero) x (y, r, o) = occurs_usable y x (root_usable y r) o
  chain_usable (suc (suc k)) x (y, c, o) = occurs_usable y x (chain_usable (suc k) y c) o

  module _ (depth : ℕ) (calls keys : List Closed) (found : AreCallsToDepth g depth calls []) (table : IsKeyTable g calls keys) where
    holder_usable : (y : Closed) → IsRoot g (Nonterminal.closed y) ⊎ Among calls y → IsUsable g.bares y
    holder_usable y (inl r) = root_usable y r
    holder_usable y (inr i) = let c = found.chains y i in chain_usable c.0 y c.2

    -- each key can be written back
    pub key_usable : (x : Closed) → Among keys x → IsUsable g.bares x
    key_usable x i = go (table.no_other x i)
      where
        go : IsPlainKey g x ⊎ (Among calls x ⊎ IsMetKey g calls x) → IsUsable g.bares x
        go (inl p) = subst (IsUsable g.bares) (sym p.key_is) tt
        go (inr (inl c)) = holder_usable x (inr c)
        go (inr (inr m)) = (stands_usable m.holder x (holder_usable m.holder m.walked) m.stands).0

    -- and has a rule of its own
    pub key_is_key : (x : Closed) → Among keys x → IsKey x
    key_is_key x i = go (table.no_other x i)
      where
        go : IsPlainKey g x ⊎ (Among calls x ⊎ IsMetKey g calls x) → IsKey x
        go (inl p) = subst IsKey (sym p.key_is) tt
        go (inr (inl c)) = let w = found.chains x c in call_is_key x (chain_is_call g w.0 x w.2)
        go (inr (inr m)) = (stands_usable m.holder x (holder_usable m.holder m.walked) m.stands).1

    -- what stands in a key that is no call is there
    pub inside_there : (x : Closed) → Among keys x → IsNoCall x → (z : Closed) → Among (keys_in x) z → Among keys z
    inside_there x i other z j = go (table.no_other x i)
      where
        go : IsPlainKey g x ⊎ (Among calls x ⊎ IsMetKey g calls x) → Among keys z
        go (inl p) = absurd (subst IsNoCall p.key_is other)
        go (inr (inl c)) = let w = found.chains x c in absurd (chain_is_call g w.0 x w.2 other)
        go (inr (inr m)) = table.complete m.holder z m.walked (record {
          origin = m.stands.origin;
          side = m.stands.side;
          symbol = m.stands.symbol;
          produced = m.stands.produced;
          in_side = m.stands.in_side;
          stands = stands_trans m.stands.symbol x z m.stands.stands j;
        })

    -- a call among the keys is a rule without parameters, or is made
    pub call_holder : (n : Text) (args : Closeds) (level : Option ℕ) → Among keys (Closed.call n args level)
        → IsRightCall g n args level
        × (IsRoot g (Nonterminal.closed (Closed.call n args level)) ⊎ Among calls (Closed.call n args level))
    call_holder n args level i = go (table.no_other (Closed.call n args level) i)
      where
        right_plain : (p : IsPlainKey g (Closed.call n args level)) → IsRightCall g n args level
        right_plain p =
            let same_n : n ≡ p.name = cc (p.key_is) in
            let same_args : args ≡ Closeds.none = cc (p.key_is) in
            record {
              rule = p.rule;
              is_rule = subst (λ t. IsRule g t p.rule) (sym same_n) p.is_rule;
              arguments = ap (λ l. length (closed_list l)) same_args ∙ sym (ap length p.no_macro);
              flat = cc (p.key_is);
            }

        plain_is_root : (p : IsPlainKey g (Closed.call n args level)) → IsRoot g (Nonterminal.closed (Closed.call n args level))
        plain_is_root p =
            let there = rule_there g p.name p.rule p.is_rule in
            inr (
              p.rule,
              None,
              subst (λ t. IsRule g t p.rule) (sym there.1) p.is_rule,
              p.no_macro,
              flat p.rule there.0,
              ap Nonterminal.closed p.key_is ∙ ap (λ t. Nonterminal.closed (Closed.call t Closeds.none None)) (sym there.1),
            )

        go : IsPlainKey g (Closed.call n args level)
            ⊎ (Among calls (Closed.call n args level) ⊎ IsMetKey g calls (Closed.call n args level))
            → IsRightCall g n args level
            × (IsRoot g (Nonterminal.closed (Closed.call n args level)) ⊎ Among calls (Closed.call n args level))
        go (inl p) = (right_plain p, inl (plain_is_root p))
        go (inr (inl c)) =
            let w = found.chains (Closed.call n args level) c in ((chain_right g flat w.0 (Closed.call n args level) w.2).0, inr c)
        go (inr (inr m)) = absurd m.no_call
