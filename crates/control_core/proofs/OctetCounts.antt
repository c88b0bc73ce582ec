-- How many octets came.
use Rattle.std.proofs.Common.{◌≡◌, ◌+◌, List, [], ◌∷◌, ◌++◌, sym, arith, zero-add}
use Rattle.feed_io.specs.Events.{Event, up, octets, down, elapsed}
use Rattle.control_core.specs.Items.{octet_count}

-- how many octets came in events one after the other
pub octet_count-append : (events later : List Event)
    → octet_count (events ++ later) ≡ octet_count events + octet_count later
octet_count-append [] later = sym (zero-add (octet_count later))
octet_count-append (up ∷ events) later = octet_count-append events later
octet_count-append (octets piece ∷ events) later = omega (arith, octet_count-append events later)
octet_count-append (down ∷ events) later = octet_count-append events later
octet_count-append (elapsed seconds ∷ events) later = octet_count-append events later
