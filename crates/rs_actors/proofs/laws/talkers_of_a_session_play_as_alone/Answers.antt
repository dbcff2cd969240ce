use Rattle.std.proofs.Common.{refl}
use Rattle.rs_actors.specs.Common.{collector_conduct, common_conduct, placeholder_conduct, source_conduct}
use Rattle.rs_actors.specs.declared.common.CommonTalker.TheVariants as common
use Rattle.rs_actors.proofs.Embedded.{alone_keeping}
use Rattle.rs_actors.proofs.laws.talkers_of_a_session_play_as_alone.Goals as goal

pub returns-clause-source : goal.returns-clause-source
returns-clause-source g c machine values after history kept p =
    alone_keeping source_conduct (common_conduct g.T.Talker.conduct) (λ x. common.Source x) (λ x. refl) (λ x. refl) (λ x v. refl) machine values history kept after p

pub returns-clause-collector : goal.returns-clause-collector
returns-clause-collector g c machine values after history kept p =
    alone_keeping collector_conduct (common_conduct g.T.Talker.conduct) (λ x. common.Collector x) (λ x. refl) (λ x. refl) (λ x v. refl) machine values history kept after p

pub returns-clause-placeholder : goal.returns-clause-placeholder
returns-clause-placeholder g c machine one after history kept p =
    alone_keeping placeholder_conduct (common_conduct g.T.Talker.conduct) (λ x. common.Placeholder x) (λ x. refl) (λ x. refl) (λ x v. refl) machine one history kept after p

pub returns-clause-own : goal.returns-clause-own
returns-clause-own g c machine talker after history kept p =
    alone_keeping g.T.Talker.conduct (common_conduct g.T.Talker.conduct) (λ x. common.Own x) (λ x. refl) (λ x. refl) (λ x v. refl) machine talker history kept after p
