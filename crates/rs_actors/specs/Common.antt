-- Public: the common talkers: a source of values, a collector, a mapper, and what sends empty values alone.
use Rattle.std.specs.Prelude.{List, [], ◌∷◌, ◌++◌, drop}
use Rattle.rs_model.specs.declared.values.Value.{Value}
use Rattle.rs_model.specs.declared.values.Value.TheVariants as value
use Rattle.rs_actors.specs.Data.{Mapper_data}
use Rattle.rs_actors.specs.Talking.{Conduct}
use Rattle.rs_actors.specs.declared.common.CommonTalker.{CommonTalker}
use Rattle.rs_actors.specs.declared.common.CommonTalker.TheVariants as common
use Rattle.rs_actors.specs.declared.placeholders.Placeholder.{Placeholder}

-- the next of the values that are still to be sent, or the unit where there is none
abbrev pub next_or_unit : List Value → Value
next_or_unit [] = value.Unit
next_or_unit (v ∷ values) = v

-- a source has the next of its values at hand, and the unit behind the last; what comes changes nothing
abbrev pub source_conduct : Conduct (List Value)
source_conduct = record {
  at_hand = next_or_unit;
  behind_sending = λ values. drop 1 values;
  behind_value = λ values v. values;
}

-- a collector has the unit at hand, and keeps what comes
abbrev pub collector_conduct : Conduct (List Value)
collector_conduct = record {
  at_hand = λ values. value.Unit;
  behind_sending = λ values. values;
  behind_value = λ values v. values ++ v ∷ [];
}

-- a mapper has the oldest image at hand that it hasn't sent, or the unit; of what comes it makes an image
abbrev pub mapper_conduct : {F : Type 0} → (F → Value → Value) → Conduct (Mapper_data F)
mapper_conduct image = record {
  at_hand = λ m. next_or_unit m.images;
  behind_sending = λ m. record { function = m.function; images = drop 1 m.images };
  behind_value = λ m v. record { function = m.function; images = m.images ++ image m.function v ∷ [] };
}

-- a placeholder has the unit at hand, and what comes changes nothing
abbrev pub placeholder_conduct : Conduct Placeholder
placeholder_conduct = record {
  at_hand = λ p. value.Unit;
  behind_sending = λ p. p;
  behind_value = λ p v. p;
}

-- a common talker does as the talker that it is, where talkers of one's own do so
abbrev pub common_at_hand : {T : Type 0} → Conduct T → CommonTalker T → Value
common_at_hand c (common.Source values) = source_conduct.at_hand values
common_at_hand c (common.Collector values) = collector_conduct.at_hand values
common_at_hand c (common.Placeholder p) = placeholder_conduct.at_hand p
common_at_hand c (common.Own x) = c.at_hand x

-- what it is when it has sent that
abbrev pub common_behind_sending : {T : Type 0} → Conduct T → CommonTalker T → CommonTalker T
common_behind_sending c (common.Source values) = common.Source (source_conduct.behind_sending values)
common_behind_sending c (common.Collector values) = common.Collector (collector_conduct.behind_sending values)
common_behind_sending c (common.Placeholder p) = common.Placeholder (placeholder_conduct.behind_sending p)
common_behind_sending c (common.Own x) = common.Own (c.behind_sending x)

-- what it is when a value has come
abbrev pub common_behind_value : {T : Type 0} → Conduct T → CommonTalker T → Value → CommonTalker T
common_behind_value c (common.Source values) v = common.Source (source_conduct.behind_value values v)
common_behind_value c (common.Collector values) v = common.Collector (collector_conduct.behind_value values v)
common_behind_value c (common.Placeholder p) v = common.Placeholder (placeholder_conduct.behind_value p v)
common_behind_value c (common.Own x) v = common.Own (c.behind_value x v)

-- how common talkers do
abbrev pub common_conduct : {T : Type 0} → Conduct T → Conduct (CommonTalker T)
common_conduct c = record {
  at_hand = common_at_hand c;
  behind_sending = common_behind_sending c;
  behind_value = common_behind_value c;
}
