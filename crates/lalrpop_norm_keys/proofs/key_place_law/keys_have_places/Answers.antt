use Rattle.lalrpop_norm_keys.proofs.MadeKeyLemmas.{made_placed, placed_made}
use Rattle.lalrpop_norm_keys.proofs.key_place_law.keys_have_places.Goals as goal

pub returns-clause-made : goal.returns-clause-made
returns-clause-made c = λ g x p h. placed_made g x p h

pub returns-clause-placed : goal.returns-clause-placed
returns-clause-placed c = λ g x shape made. made_placed g x shape made
