use Rattle.std.proofs.Common.{◌≡◌, ◌+◌, ◌*◌, ◌≤◌, ◌++◌, IsTrue, length, map, Some, slice_get}
use Rattle.age.specs.ArmorReader.{inner_of, armored_content, lines_of, furthest_of, notes_all, refuses_of}
use Rattle.age.specs.Reading.{AddsNoReason}
use Rattle.age_examples.specs.Looks.{AreWithin, IsOneOutside}
use Rattle.age_examples.proofs.looks.bytes_at.Given as goal

abbrev pub invariant-looks : goal.invariant-looks
invariant-looks g l =
    let reader = g.R.Read in
    record {
      tells : reader.tells (inner_of l.reader) ≡ reader.tells (inner_of l.fn.reader);
      steady : reader.steady (inner_of l.reader) ≡ reader.steady (inner_of l.fn.reader);
      faults : reader.faults (inner_of l.fn.reader) ≤ reader.faults (inner_of l.reader);
      further : furthest_of l.fn.reader ≤ furthest_of l.reader;
      within : AreWithin (furthest_of l.fn.reader) l.places → AreWithin (furthest_of l.fn.reader) l.rest;
      lines : IsTrue (reader.tells (inner_of l.fn.reader)) → IsTrue (reader.steady (inner_of l.fn.reader)) → IsTrue (notes_all l.reader) →
          AreWithin (furthest_of l.fn.reader) l.places →
          lines_of l.reader + 1025 * length l.rest ≤ lines_of l.fn.reader + 1025 * length l.places;
      content : IsTrue (reader.tells (inner_of l.fn.reader)) → armored_content l.reader ≡ armored_content l.fn.reader;
      bytes : IsTrue (reader.tells (inner_of l.fn.reader)) → IsTrue (reader.steady (inner_of l.fn.reader)) →
          map (slice_get (armored_content l.fn.reader).bytes) l.places
          ≡ map Some l.bytes.items ++ map (slice_get (armored_content l.fn.reader).bytes) l.rest;
      outside : IsOneOutside (armored_content l.fn.reader).bytes l.rest → IsOneOutside (armored_content l.fn.reader).bytes l.places;
      narrows : AddsNoReason (λ r. refuses_of r) l.fn.reader l.reader;
    }

abbrev pub decreases-looks : goal.decreases-looks
decreases-looks g l = length l.rest
