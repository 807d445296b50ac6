-- The grammar with a finished rule for each key is what the laws of macros ask for, and its macros are expanded.
use Rattle.std.proofs.Common.{◌≡◌, ℕ, ◌+◌, List, [], ◌∷◌, refl, ap, sym, ◌∙◌, subst, cond, inl, inr, map, length}
use Rattle.std.specs.Prelude.{Bool, true, false, ◌⊎◌, Option, None, filter}
use Rattle.std.specs.Str.{bytes_eq}
use Rattle.std.proofs.lemmas.Bool.{true≢false}
use Rattle.lalrpop_grammar_symbols.specs.Symbols.{Text, TextSpan, Terminal, Closed, Closeds, Sym, WrittenSymbol}
use Rattle.lalrpop_grammar.specs.WrittenGrammar.{Alternative, Grammar, Rule, rules_of}
use Rattle.lalrpop_grammar_language.specs.Among.{Among}
use Rattle.lalrpop_grammar_language.specs.Enabled.{EnabledGrammar, EnabledRule, Choice, IsRule, choice_of, has_name, has_text}
use Rattle.lalrpop_grammar_language.specs.Levels.{has_levels}
use Rattle.lalrpop_grammar_language.proofs.ComparisonLemmas.{same_text-refl}
use Rattle.lalrpop_grammar_language.proofs.PlaceLemmas.{among_map, same_text-eq}
use Rattle.lalrpop_norm_theory.specs.Between.{grammar_between, rule_between, with_origins}
use Rattle.lalrpop_norm_theory.specs.Premises.{HasNoLevels, IsExpanded, IsExpandedChoice, IsExpandedSymbol}
use Rattle.lalrpop_norm_theory.proofs.ExpansionListLemmas.{rule_there}
use Rattle.lalrpop_norm_theory.specs.KeyRules.{AreWrittenFor, IsKey, IsWrittenFor}
use Rattle.lalrpop_norm_theory.specs.KeyTables.{AreKeyRules, IsKeyTable}
use Rattle.lalrpop_norm_theory.specs.KeyTypes.{DeclareKeyTypes, HasKeyRule, IsKeyDeclaration}
use Rattle.lalrpop_norm_macros.specs.FinishedRules.{AreFinishedRules, AreRulesFrom, IsFinishedRule}
use Rattle.lalrpop_norm_macros.specs.KeyedSymbols.{AreKeyed, IsMappedSymbol}
use Rattle.lalrpop_norm_keys.specs.Tables.{HasEachOnce}
use Rattle.lalrpop_norm_macros.specs.RuleItems.{grammar_with_rules}
use Rattle.lalrpop_norm_macros.proofs.FinishedLemmas.{bares_of_made, finished_alternatives, finished_declaration, finished_key_rule}
use Rattle.lalrpop_norm_macros.proofs.FinishedLemmas.{finished_levels, finished_name, rules_of_made}

-- lists of rules, each for a key by its name
module _ (P : ℕ → Closed → Rule → Type 0) (f : Closed → Text)
    (named : (i : ℕ) (x : Closed) (r : Rule) → P i x r → r.name ≡ f x) where
  pub rule_of_some : (k : ℕ) (xs : List Closed) (rs : List Rule) → AreRulesFrom P k xs rs → (r : Rule) → Among rs r
      → (i : ℕ) × (x : Closed) × Among xs x × P i x r
  rule_of_some k [] rs e r i = absurd (subst (λ l. Among l r) e i)
  rule_of_some k (x ∷ xs) rs (q, rest, e, p, more) r i = go (subst (λ l. Among l r) e i) (λ j. rule_of_some (k + 1) xs rest more r j)
    where
      go : Among (q ∷ rest) r → (Among rest r → (i : ℕ) × (y : Closed) × Among xs y × P i y r)
          → (i : ℕ) × (y : Closed) × Among (x ∷ xs) y × P i y r
      go (inl same) later = (k, x, inl refl, subst (P k x) same p)
      go (inr j) later = let w = later j in (w.0, w.1, inr w.2, w.3)

  none_named : (k : ℕ) (xs : List Closed) (rs : List Rule) → AreRulesFrom P k xs rs → (n : Text)
      → ((x : Closed) → Among xs x → f x ≡ n → ⊥) → filter (has_name n) (map rule_between rs) ≡ []
  none_named k [] rs e n w = ap (λ l. filter (has_name n) (map rule_between l)) e
  none_named k (x ∷ xs) rs (q, rest, e, p, more) n w =
      ap (λ l. filter (has_name n) (map rule_between l)) e
      ∙ go (bytes_eq q.name n) refl (none_named (k + 1) xs rest more n (λ y i. w y (inr i)))
    where
      go : (b : Bool) → bytes_eq q.name n ≡ b → filter (has_name n) (map rule_between rest) ≡ []
          → cond b (rule_between q ∷ filter (has_name n) (map rule_between rest)) (filter (has_name n) (map rule_between rest)) ≡ []
      go true c none = absurd (w x (inl refl) (sym (named k x q p) ∙ same_text-eq q.name n c))
      go false c none = none

  pub only_named : (k : ℕ) (xs : List Closed) (rs : List Rule) → AreRulesFrom P k xs rs → HasEachOnce xs
      → ((x y : Closed) → Among xs x → Among xs y → f x ≡ f y → x ≡ y) → (x : Closed) → Among xs x
      → (i : ℕ) × (r : Rule) × P i x r × (filter (has_name (f x)) (map rule_between rs) ≡ rule_between r ∷ [])
  only_named k [] rs e once apart x i = absurd i
  only_named k (y ∷ ys) rs (q, rest, e, p, more) once apart x i =
      go i (λ j. only_named (k + 1) ys rest more once.1 (λ a b u v. apart a b (inr u) (inr v)) x j)
    where
      here : y ≡ x → filter (has_name (f x)) (map rule_between rs) ≡ rule_between q ∷ []
      here same =
          let at : bytes_eq q.name (f x) ≡ true =
          subst (λ t. bytes_eq q.name t ≡ true) (named k y q p ∙ ap f same) (same_text-refl q.name) in
          ap (λ l. filter (has_name (f x)) (map rule_between l)) e
          ∙ ap (λ b. cond b (rule_between q ∷ filter (has_name (f x)) (map rule_between rest))
          (filter (has_name (f x)) (map rule_between rest))) at
          ∙ ap (λ l. rule_between q ∷ l)
          (none_named (k + 1) ys rest more (f x)
          (λ z j c. once.0 (subst (Among ys) (apart z y (inr j) (inl refl) (c ∙ ap f (sym same))) j)))

      other : (b : Bool) → bytes_eq q.name (f x) ≡ b → Among ys x → (r : Rule)
          → filter (has_name (f x)) (map rule_between rest) ≡ rule_between r ∷ []
          → filter (has_name (f x)) (map rule_between rs) ≡ rule_between r ∷ []
      other true c j r h =
          absurd (once.0 (subst (Among ys)
          (sym (apart y x (inl refl) (inr j) (sym (named k y q p) ∙ same_text-eq q.name (f x) c))) j))
      other false c j r h =
          ap (λ l. filter (has_name (f x)) (map rule_between l)) e
          ∙ ap (λ b. cond b (rule_between q ∷ filter (has_name (f x)) (map rule_between rest))
          (filter (has_name (f x)) (map rule_between rest))) c ∙ h

      go : (y ≡ x) ⊎ Among ys x
          → (Among ys x → (i : ℕ) × (r : Rule) × P i x r
          × (filter (has_name (f x)) (map rule_between rest) ≡ rule_between r ∷ []))
          → (i : ℕ) × (r : Rule) × P i x r × (filter (has_name (f x)) (map rule_between rs) ≡ rule_between r ∷ [])
      go (inl same) later = (k, q, subst (λ z. P k z q) same p, here same)
      go (inr j) later = let w = later j in (w.0, w.1, w.2, other (bytes_eq q.name (f x)) refl j w.1 w.3)

-- a text passes as its own name
only_rule : (h : EnabledGrammar) (n : Text) (q r : EnabledRule) → IsRule h n q → IsRule h n r → q ≡ r
only_rule h n q r i j = cc

one_there : (a b : EnabledRule) → Among (a ∷ []) b → a ≡ b
one_there a b (inl e) = e
one_there a b (inr i) = absurd i

among_named : (rs : List EnabledRule) (n : Text) (q : EnabledRule) → Among rs q → q.name ≡ n → Among (filter (has_name n) rs) q
among_named [] n q i e = absurd i
among_named (r ∷ rs) n q (inl k) e =
    subst (λ b. Among (cond b (r ∷ filter (has_name n) rs) (filter (has_name n) rs)) q)
    (sym (subst (λ (z : EnabledRule). bytes_eq z.name n ≡ true) (sym k)
    (subst (λ t. bytes_eq q.name t ≡ true) e (same_text-refl q.name))))
    (inl k)
among_named (r ∷ rs) n q (inr i) e = in_rest (has_name n r) (among_named rs n q i e)
  where
    in_rest : (b : Bool) → Among (filter (has_name n) rs) q → Among (cond b (r ∷ filter (has_name n) rs) (filter (has_name n) rs)) q
    in_rest true j = inr j
    in_rest false j = j

-- what has a rule, by its name
key_among : (keys : List Closed) (x : Closed) → HasKeyRule keys x → IsKey x → Among keys x
key_among keys (Closed.terminal t) h k = absurd k
key_among keys (Closed.call n args level) h k = h
key_among keys (Closed.repeat op x) h k = h
key_among keys (Closed.group xs) h k = h
key_among keys (Closed.choose x) h k = absurd k
key_among keys (Closed.name m n x) h k = absurd k
key_among keys Closed.lookahead h k = h
key_among keys Closed.lookbehind h k = h
key_among keys Closed.faulty h k = absurd k

module _ (finds : Text → Text → Option Bool) (w : Grammar) (f : Closed → Text) (keys calls : List Closed) (places : ℕ → TextSpan)
    (made : List Rule) (flat : HasNoLevels (grammar_between finds w)) (table : IsKeyTable (grammar_between finds w) calls keys)
    (once : HasEachOnce keys) (apart : (x y : Closed) → Among keys x → Among keys y → f x ≡ f y → x ≡ y)
    (own : (n : Text) (r : EnabledRule) → IsRule (grammar_between finds w) n r → r.parameters ≡ []
    → f (Closed.call n Closeds.none None) ≡ n)
    (done : AreFinishedRules finds w f places keys made) where
  abbrev g : EnabledGrammar
  g = grammar_between finds w

  abbrev h : EnabledGrammar
  h = grammar_between finds (grammar_with_rules w made)

  abbrev Done : ℕ → Closed → Rule → Type 0
  Done i x r = IsFinishedRule g (rules_of w.items) f keys x (places i) r

  done_name : (i : ℕ) (x : Closed) (r : Rule) → Done i x r → r.name ≡ f x
  done_name i x r m = (finished_name g (rules_of w.items) f keys x (places i) r m).0

  rules_are : h.rules ≡ map rule_between made
  rules_are = ap (map rule_between) (rules_of_made w.items made)

  bares_are : h.bares ≡ g.bares
  bares_are = bares_of_made w.items made

  -- a key has one rule, by its name
  rule_there_for : (x : Closed) → Among keys x → (i : ℕ) × (r : Rule) × Done i x r × IsRule h (f x) (rule_between r)
  rule_there_for x j =
      let v = only_named Done f done_name 0 keys made done once apart x j in
      (v.0, v.1, v.2, ap (λ rs. filter (has_name (f x)) rs) rules_are ∙ v.3)

  -- and each rule is one of a key
  key_of_rule : (q : EnabledRule) → Among h.rules q
      → (i : ℕ) × (x : Closed) × (r : Rule) × Among keys x × Done i x r × (rule_between r ≡ q)
  key_of_rule q j =
      let v = among_map rule_between made q (subst (λ rs. Among rs q) rules_are j) in
      let u = rule_of_some Done f done_name 0 keys made done v.0 v.1 in
      (u.0, u.1, v.0, u.2, u.3, v.2)

  -- each rule stands alone under its name
  rule_alone : (q : EnabledRule) → Among h.rules q → IsRule h q.name q
  rule_alone q j =
      let v = key_of_rule q j in
      let x = v.1 in
      let u = rule_there_for x v.3 in
      let name : q.name ≡ f x = ap (λ (z : EnabledRule). z.name) (sym v.5) ∙ done_name v.0 x v.2 v.4 in
      let there : Among (filter (has_name (f x)) h.rules) q = among_named h.rules (f x) q j name in
      let same : rule_between u.1 ≡ q = one_there (rule_between u.1) q (subst (λ l. Among l q) u.3 there) in
      subst (λ n. IsRule h n q) (sym name) (subst (IsRule h (f x)) same u.3)

  -- which rules are public
  public_same : (n : Text) (r q : EnabledRule) → IsRule g n r → r.parameters ≡ [] → IsRule h n q → q.public ≡ r.public
  public_same n r q i e j =
      let u = rule_there_for (Closed.call n Closeds.none None) (table.plain n r i e) in
      let name = own n r i e in
      let same : rule_between u.1 ≡ q = only_rule h n (rule_between u.1) q (subst (λ t. IsRule h t (rule_between u.1)) name u.3) j in
      let called = u.2.1 in
      let was : rule_between u.2.0 ≡ r = only_rule g n (rule_between u.2.0) r called.is_rule i in
      ap (λ (z : EnabledRule). z.public) (sym same) ∙ u.2.2.public ∙ ap (λ (z : EnabledRule). z.public) was

  no_parameters : (ps : List Text) → 0 ≡ length ps → ps ≡ []
  no_parameters [] e = refl
  no_parameters (p ∷ ps) e = cc

  abbrev IsPlainCallOf : Closed → Type 0
  IsPlainCallOf x = (n : Text) × (r : EnabledRule) × (x ≡ Closed.call n Closeds.none None) × IsRule g n r × (r.parameters ≡ [])

  public_plain : (i : ℕ) (x : Closed) (r : Rule) → Done i x r → r.public ≡ true → IsPlainCallOf x
  public_plain i (Closed.call n Closeds.none level) r (written, c, m) e = (
    n,
    rule_between written,
    ap (λ l. Closed.call n Closeds.none l) c.flat,
    c.is_rule,
    no_parameters written.parameters c.arguments,
  )
  public_plain i (Closed.call n (Closeds.more y ys) level) r (written, c, m) e = absurd (true≢false (sym e ∙ m.public))
  public_plain i (Closed.repeat op x) r m e = absurd (true≢false (sym e ∙ m.private))
  public_plain i (Closed.group xs) r m e = absurd (true≢false (sym e ∙ m.private))
  public_plain i Closed.lookahead r m e = absurd (true≢false (sym e ∙ m.private))
  public_plain i Closed.lookbehind r m e = absurd (true≢false (sym e ∙ m.private))
  public_plain i (Closed.terminal t) r m e = absurd m
  public_plain i (Closed.choose x) r m e = absurd m
  public_plain i (Closed.name a n x) r m e = absurd m
  public_plain i Closed.faulty r m e = absurd m

  private_else : (x : Closed) (q : EnabledRule) → Among keys x → IsRule h (f x) q → q.public ≡ true → IsPlainCallOf x
  private_else x q k j e =
      let u = rule_there_for x k in
      let same : rule_between u.1 ≡ q = only_rule h (f x) (rule_between u.1) q u.3 j in
      public_plain u.0 x u.1 u.2 (ap (λ (z : EnabledRule). z.public) same ∙ e)

  pub finished_key_rules : AreKeyRules g h f keys
  finished_key_rules = record {
    bares = bares_are;
    rules = λ x k. let u = rule_there_for x k in
        (rule_between u.1, u.3, finished_key_rule g (rules_of w.items) f keys flat x (places u.0) u.1 u.2);
    no_other = λ n q j. let t = rule_there h n q j in let v = key_of_rule q t.0 in
        (v.1, v.3, sym t.1 ∙ ap (λ (z : EnabledRule). z.name) (sym v.5) ∙ done_name v.0 v.1 v.2 v.4);
    own = own;
    public = public_same;
    private = private_else;
    keys_only = λ x k. let u = rule_there_for x k in (finished_name g (rules_of w.items) f keys x (places u.0) u.1 u.2).2;
    apart = apart;
  }

  pub finished_declarations : DeclareKeyTypes g h f keys
  finished_declarations x q k j =
      let u = rule_there_for x k in
      let same : rule_between u.1 ≡ q = only_rule h (f x) (rule_between u.1) q u.3 j in
      subst (IsKeyDeclaration g f keys x) (ap (λ (z : EnabledRule). z.declared) same)
      (finished_declaration g (rules_of w.items) f keys x (places u.0) u.1 u.2)

  -- symbols that are written by names
  symbol_expanded : (x : Closed) (v : WrittenSymbol) → HasKeyRule keys x → IsMappedSymbol g.bares x → IsWrittenFor g.bares f x v
      → IsExpandedSymbol h v
  symbol_expanded x (Sym.terminal p (Terminal.quoted t)) k m i = tt
  symbol_expanded x (Sym.terminal p (Terminal.regex t)) k m i = tt
  symbol_expanded x (Sym.terminal p (Terminal.bare n)) k m i = ap (λ l. has_text n l) bares_are ∙ i.1
  symbol_expanded x (Sym.terminal p Terminal.error) k m i = absurd (subst (HasKeyRule keys) i.0 k)
  symbol_expanded x (Sym.nonterminal p n) k m i =
      let u = rule_there_for x (key_among keys x k i.1) in
      (rule_between u.1, subst (λ t. IsRule h t (rule_between u.1)) (sym i.0) u.3)
  symbol_expanded x (Sym.choose p v) k m (y, e, i) =
      symbol_expanded y v (subst (HasKeyRule keys) e k) (subst (IsMappedSymbol g.bares) e m) i
  symbol_expanded x (Sym.name p a n v) k m (y, e, i) =
      symbol_expanded y v (subst (HasKeyRule keys) e k) (subst (IsMappedSymbol g.bares) e m) i
  symbol_expanded x (Sym.expr p vs) k m i = absurd i
  symbol_expanded x (Sym.ambiguous_id p n) k m i = absurd i
  symbol_expanded x (Sym.macro p n args) k m i = absurd i
  symbol_expanded x (Sym.repeat p op v) k m i = absurd i
  symbol_expanded x (Sym.lookahead p) k m i = absurd i
  symbol_expanded x (Sym.lookbehind p) k m i = absurd i
  symbol_expanded x (Sym.error p) k m i = absurd i

  symbols_expanded : (xs : List Closed) (vs : List WrittenSymbol) → AreKeyed g.bares keys xs → AreWrittenFor g.bares f xs vs
      → (v : WrittenSymbol) → Among vs v → IsExpandedSymbol h v
  symbols_expanded [] [] k i v j = absurd j
  symbols_expanded [] (u ∷ vs) k i v j = absurd i
  symbols_expanded (x ∷ xs) [] k i v j = absurd i
  symbols_expanded (x ∷ xs) (u ∷ vs) k i v (inl e) = subst (IsExpandedSymbol h) e (symbol_expanded x u k.0 k.1 i.0)
  symbols_expanded (x ∷ xs) (u ∷ vs) k i v (inr j) = symbols_expanded xs vs k.2 i.1 v j

  choice_expanded : (r : Rule) (i : ℕ) (x : Closed) → Done i x r → (c : Choice) → Among (rule_between r).choices c
      → IsExpandedChoice h c
  choice_expanded r i x m c j =
      let a = among_map choice_of (with_origins r.alternatives) c j in
      let b = among_map (λ (z : Alternative). (z.origin, z)) r.alternatives a.0 a.1 in
      let plain = finished_alternatives g (rules_of w.items) f keys x (places i) r m b.0 b.1 in
      let same : choice_of (b.0.origin, b.0) ≡ c = ap choice_of b.2 ∙ a.2 in
      subst (IsExpandedChoice h) same (record {
        unconditional = plain.unconditional;
        symbols = symbols_expanded plain.side b.0.expr plain.symbols.0 plain.symbols.1;
      })

  pub finished_expanded : IsExpanded h
  finished_expanded = record {
    rules = rule_alone;
    no_macros = λ q j. let v = key_of_rule q j in
        ap (λ (z : EnabledRule). z.parameters) (sym v.5) ∙ (finished_name g (rules_of w.items) f keys v.1 (places v.0) v.2 v.4).1;
    no_levels = λ q j. let v = key_of_rule q j in
        subst (λ z. has_levels z ≡ false) v.5 (finished_levels g (rules_of w.items) f keys v.1 (places v.0) v.2 v.4);
    choices = λ q c j k. let v = key_of_rule q j in
        choice_expanded v.2 v.0 v.1 v.4 c (subst (λ (z : EnabledRule). Among z.choices c) (sym v.5) k);
  }
