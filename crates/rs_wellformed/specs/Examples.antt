-- Public: small protocols that show what the definitions say.
use Rattle.std.specs.Prelude.{ℕ, [], ◌∷◌}
use Rattle.rs_model.specs.Data.{Protocol_data}
use Rattle.rs_model.specs.declared.graph.Node.TheVariants.{Finished, Talk}
use Rattle.rs_model.specs.declared.values.Sort.TheVariants as sort

-- among two roles, one talk from role 0 to the receiver, with one arm to the end
abbrev pub one_talk : ℕ → Protocol_data
one_talk receiver =
    record {
      roles = 2;
      nodes = Talk (record { 0 = 0 }) (record { 0 = receiver }) (record { label = record { 0 = 0 }; sort = sort.Unit; next = 1 } ∷ []) ∷ Finished ∷ [];
      root = 0;
    }
