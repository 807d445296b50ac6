-- The names of the keys of a grammar, and what they rest on; for the passes that name keys and that write their rules.
use Rattle.std.specs.Prelude.{ℕ, zero, suc, ◌≡◌, ◌≢◌, ◌<◌, ◌⊎◌, List, [], map, None}
use Rattle.lalrpop_grammar_symbols.specs.Symbols.{Text, Closed, Closeds}
use Rattle.lalrpop_grammar_language.specs.Among.{Among}
use Rattle.lalrpop_grammar_language.specs.Enabled.{EnabledGrammar, EnabledRule, IsRule}
use Rattle.lalrpop_norm_theory.specs.Keys.{before_tilde, flat_key_text, with_number}
use Rattle.lalrpop_norm_theory.specs.Premises.{AreDifferent}
use Rattle.lalrpop_norm_theory.specs.Rounds.{AreCallsToDepth}
use Rattle.lalrpop_norm_theory.specs.KeyTables.{IsKeyTable}
use Rattle.lalrpop_norm_theory.specs.LevelNames.{numbered_text, times_taken}
use Rattle.lalrpop_norm_macros.specs.OrderedNames.{rule_text}

-- The number is free for a key of that text: the number before it is another key's of the text, or `~2` stands where the text
-- is a macro's name.
pub data IsNextAmongKeys (g : EnabledGrammar) (keys : List Closed) (number : Closed → ℕ) (text : Text) : ℕ → Type 0 where
  first : IsNextAmongKeys g keys number text zero
  after_key : {k : ℕ} (y : Closed) → Among keys y → flat_key_text y ≡ text → number y ≡ k
      → IsNextAmongKeys g keys number text (suc k)
  after_macro : (r : EnabledRule) → Among g.rules r → r.parameters ≢ [] → r.name ≡ text
      → IsNextAmongKeys g keys number text (suc zero)

-- The names of keys. A rule without parameters keeps its own, no two keys share one, and none is a macro's. Each is the key's
-- text, or its text with a number, and no number is left out.
pub record AreKeyNames (g : EnabledGrammar) (keys : List Closed) (f : Closed → Text) : Type 0 where
  pub number : Closed → ℕ
  pub own : (n : Text) (r : EnabledRule) → IsRule g n r → r.parameters ≡ [] → f (Closed.call n Closeds.none None) ≡ n
  pub apart : (x y : Closed) → Among keys x → Among keys y → f x ≡ f y → x ≡ y
  pub macros : (r : EnabledRule) (x : Closed) → Among g.rules r → r.parameters ≢ [] → Among keys x → f x ≢ r.name
  pub printed : (x : Closed) → Among keys x → f x ≡ with_number (flat_key_text x) (number x)
  pub packed : (x : Closed) → Among keys x → IsNextAmongKeys g keys number (flat_key_text x) (number x)

-- the list has the names of the keys, in their order
abbrev pub HoldKeyNames : EnabledGrammar → List Closed → List Text → Type 0
HoldKeyNames g keys names = (f : Closed → Text) × (names ≡ map f keys) × AreKeyNames g keys f

-- the keys are all that the grammar has
pub record HasFoundKeys (g : EnabledGrammar) (keys : List Closed) : Type 0 where
  pub calls : List Closed
  pub depth : ℕ
  pub found : AreCallsToDepth g depth calls []
  pub table : IsKeyTable g calls keys

-- what names of keys rest on

-- how often rules take the text
abbrev pub times_by_rules : EnabledGrammar → Text → ℕ
times_by_rules g text = times_taken text (map (λ r. rule_text r.parameters r.name) g.rules)

-- the rule's name is its text, or its text with a number, which is below how often the text is taken
pub record HasNumberBelow (g : EnabledGrammar) (r : EnabledRule) : Type 0 where
  pub number : ℕ
  pub is : r.name ≡ with_number (before_tilde r.name) number
  pub below : number < times_by_rules g (before_tilde r.name)

-- the name of a level: a name without a tilde and the number of the level, and maybe a number behind a tilde
pub record IsLevelName (n : Text) : Type 0 where
  pub base : Text
  pub level : ℕ
  pub number : ℕ
  pub plain : before_tilde base ≡ base
  pub is : n ≡ with_number (numbered_text base level) number

-- No two rules share a name. The numbers of rules without parameters leave none out, since each is below how often its text is
-- taken. Macros have names without a tilde, or those of levels. Grammars are so once levels are expanded.
pub record IsNameable (g : EnabledGrammar) : Type 0 where
  pub rules : AreDifferent (map (λ r. r.name) g.rules)
  pub numbers : (r : EnabledRule) → Among g.rules r → r.parameters ≡ [] → HasNumberBelow g r
  pub macros : (r : EnabledRule) → Among g.rules r → r.parameters ≢ [] → (before_tilde r.name ≡ r.name) ⊎ IsLevelName r.name
