-- Where the collector found each home as it stored it, there is a spare region for each tablet that it chose.
use Rattle.std.proofs.Common.{ℕ, List}
use Rattle.mako_pause.specs.Collecting.{Holdings, at}
use Rattle.mako_cycles.specs.Housing.{ChoiceGives}
use Rattle.mako_pause.specs.declared.stage.ChoiceStage.{ChoiceStage}
use Rattle.mako_pause.specs.declared.stage.ChoiceStage.TheVariants.{LoadingLive, LoadingTop, LoadingHome}
use Rattle.mako_pause.specs.declared.stage.ChoiceStage.TheVariants.{StoringLeaving, StoringHome, StoringTop}
use Rattle.mako_pause.specs.declared.stage.ChoiceStage.TheVariants.{StoringEvac, Opening as Reopening}
use Rattle.mako_pause.specs.declared.stage.CollectStage.TheVariants.{Choosing}
use Rattle.mako_cycles.proofs.Gifts.{collectors_give}
use Rattle.mako_collecting.specs.Roles.{HasSpare}
use Rattle.mako_sitting_collector.specs.CollectorHoused.{HousedHaveSpares}

spare_of : (k : Holdings) (stage : ChoiceStage) (homes : ℕ → ℕ) (given : List ℕ) → ChoiceGives k stage homes given
    → HasSpare k stage
spare_of k (LoadingHome i) homes given gives = (gives.1.0, gives.1.1.0)
spare_of k (LoadingLive r place) homes given gives = tt
spare_of k (LoadingTop r place number) homes given gives = tt
spare_of k (StoringLeaving i gift) homes given gives = tt
spare_of k (StoringHome i gift) homes given gives = tt
spare_of k (StoringTop i) homes given gives = tt
spare_of k StoringEvac homes given gives = tt
spare_of k (Reopening m) homes given gives = tt

pub housed_have_spares : HousedHaveSpares
housed_have_spares n words k stage h =
    spare_of k stage h.homes h.given
    (collectors_give h.script h.trail
    (record { collector = at k (Choosing stage); homes = h.homes; given = h.given }) h.shape h.goes).1
