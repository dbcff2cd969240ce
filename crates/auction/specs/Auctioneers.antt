-- Steps: what an auctioneer says next, and what it makes of what it hears.
use Rattle.std.specs.Prelude.{true, if◌then◌else◌, max}
use Rattle.rs_model.specs.declared.values.Value.{Value}
use Rattle.rs_model.specs.declared.values.Value.TheVariants as value
use Rattle.auction.specs.declared.Auctioneer.{Auctioneer}

-- the unit once the sale is over, and otherwise the number that is sent next
abbrev pub next_word : Auctioneer → Value
next_word a = (if a.is_over then value.Unit else value.Natural a.hand)

-- a bid is noted next, and may be the best; anything else ends the sale
abbrev pub behind_value : Auctioneer → Value → Auctioneer
behind_value a (value.Natural bid) = record { best = max a.best bid; hand = bid; is_over = a.is_over }
behind_value a _ = record a { is_over = true }
