-- What thirteen symbols leave on the stack, one after another.
use Rattle.raw_productions.proofs.Stacks.{◌↓◌, token_there}
use Rattle.raw_productions.proofs.definitions.fuel_match_0.Goals as goal

pub drop_token-requires-11 : goal.drop_token-requires-11
drop_token-requires-11 c =
    token_there (c.requires.makes.1.0 ↓ c.drop_token.ensures.is ↓ c.drop_token-2.ensures.is ↓ c.drop_token-3.ensures.is ↓ c.drop_token-4.ensures.is ↓ c.drop_token-5.ensures.is ↓ c.drop_token-6.ensures.is ↓ c.drop_token-7.ensures.is ↓ c.drop_token-8.ensures.is ↓ c.drop_token-9.ensures.is ↓ c.drop_token-10.ensures.is)

pub drop_token-requires-12 : goal.drop_token-requires-12
drop_token-requires-12 c =
    token_there (c.requires.makes.1.0 ↓ c.drop_token.ensures.is ↓ c.drop_token-2.ensures.is ↓ c.drop_token-3.ensures.is ↓ c.drop_token-4.ensures.is ↓ c.drop_token-5.ensures.is ↓ c.drop_token-6.ensures.is ↓ c.drop_token-7.ensures.is ↓ c.drop_token-8.ensures.is ↓ c.drop_token-9.ensures.is ↓ c.drop_token-10.ensures.is ↓ c.drop_token-11.ensures.is)
