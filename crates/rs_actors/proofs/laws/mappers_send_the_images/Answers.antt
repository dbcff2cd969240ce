use Rattle.rs_actors.specs.Common.{mapper_conduct}
use Rattle.rs_actors.proofs.Playing.{talks_keeping}
use Rattle.rs_actors.proofs.Sending.{mapped_keeping}
use Rattle.rs_actors.proofs.laws.mappers_send_the_images.Goals as goal

pub returns-clause-order : goal.returns-clause-order
returns-clause-order g c machine mapper after history kept p =
    (mapped_keeping g.F.ValueFunction.image mapper history kept after (talks_keeping (mapper_conduct g.F.ValueFunction.image) machine mapper history kept after p)).hands

pub returns-clause-function : goal.returns-clause-function
returns-clause-function g c machine mapper after history kept p =
    (mapped_keeping g.F.ValueFunction.image mapper history kept after (talks_keeping (mapper_conduct g.F.ValueFunction.image) machine mapper history kept after p)).same
