use Rattle.std.proofs.Common.{[]}
use Rattle.rs_rings.specs.Rule.{machines_in_key}
use Rattle.rs_rings.proofs.tables.RingTable.has_room_behind.Given as goal

abbrev pub ghosts-has_room_as : goal.ghosts-has_room_as
ghosts-has_room_as a =
    record {
      call = record {
        roles = a.self.now.layout.roles;
        capacity = a.self.now.layout.capacity;
        sender = a.sender.0;
        receiver = a.receiver.0;
        next = 0;
        arms = [];
        machines = machines_in_key a.self.now.board.shared.key;
      };
    }
