-- The limits and sizes as one value, which the code's constants are held to.
-- Assumes nothing.
use Rattle.spec.specs.declared.Limits.{Limits}
use Rattle.spec.specs.Limits.{max_book, max_segments, max_entries, max_peers, max_slots, sizes_size, head_size, entry_size, peer_count_offset, peer_size, max_edges, edge_size, solution_head_size, solution_size, info_size, hop_size, interface_size, path_head_size, path_size, meta_size, wire_info_size, wire_hop_size, wire_size}

-- 11.2: what the contract of `Limits::new` ties the code's constants to
abbrev pub limits : Limits
limits =
    record {
      book = max_book;
      segments = max_segments;
      entries = max_entries;
      peers = max_peers;
      slots = max_slots;
      sizes = sizes_size;
      head = head_size;
      entry = entry_size;
      peer_count = peer_count_offset;
      peer = peer_size;
      edges = max_edges;
      edge = edge_size;
      solution_head = solution_head_size;
      solution = solution_size;
      info = info_size;
      hop = hop_size;
      interface = interface_size;
      path_head = path_head_size;
      path = path_size;
      meta = meta_size;
      wire_info = wire_info_size;
      wire_hop = wire_hop_size;
      wire = wire_size;
    }
