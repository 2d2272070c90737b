-- Document 01's examples of the two calls, from the bytes of their files. Assumes nothing.
use Rattle.std.specs.Prelude.{◌≡◌, ◌∷◌}
use Rattle.base_lists.specs.Kit.{refl, List, [], ℕ}
use Rattle.base_lists.specs.List.{all, all_below, tabulate, maximum}
use Rattle.graph.specs.Search.{beside, inside, ball, misses, distances, connected, radius}
use Rattle.file_format.specs.declared.Edition.TheVariants.{First}
use Rattle.file_format.specs.declared.File.TheVariants.{Neither}
use Rattle.file_format.specs.Examples.{file_t, file_b, file_one}
use Rattle.file_format.specs.Layout.{in_edition, field, fields, nodes_of, links_of, starts_of, ends_of}
use Rattle.file_format.specs.Links.{links_below, earlier, rising}
use Rattle.file_format.specs.Reading.{filled}
use Rattle.file_format.specs.Refusals.{accept, refuse, first, link_conditions, file_conditions, asks_connected, centre_outside, short_table}
use Rattle.file_format.specs.Reply.{reply}
use Rattle.call_distance.specs.Calls.{radius_call, ball_conditions, ball_entries, ball_call}

-- E1: "T has radius 2; one part has 0."
pub E1-T-call : radius_call (in_edition First file_t) ≡ record { verdict = accept; values = 2 ∷ [] }
unfolding file_t radius_call reply first file_conditions link_conditions asks_connected links_below rising earlier nodes_of links_of starts_of ends_of fields field radius connected maximum distances misses ball tabulate inside beside all all_below
E1-T-call = refl

pub E1-one-call : radius_call (in_edition First file_one) ≡ record { verdict = accept; values = 0 ∷ [] }
unfolding file_one radius_call reply first file_conditions link_conditions asks_connected links_below rising earlier nodes_of links_of starts_of ends_of fields field radius connected maximum distances misses ball tabulate inside beside all all_below
E1-one-call = refl

-- 7: "B below, centre 6", at any radius and with any table
pub B-centre-6 : (r : ℕ) (out : List ℕ)
    → ball_call (in_edition First file_b) 6 r out ≡ record { reply = record { verdict = refuse (record { number = 7; file = Neither }); values = [] }; out = out }
unfolding file_b ball_call ball_conditions filled reply first file_conditions link_conditions centre_outside short_table asks_connected links_below rising earlier nodes_of links_of starts_of ends_of fields field tabulate all all_below
B-centre-6 r out = refl

-- the ball of radius 1 around node 0 of B, in a table of seven entries: the seventh keeps its content
pub B-ball : ball_call (in_edition First file_b) 0 1 (9 ∷ 9 ∷ 9 ∷ 9 ∷ 9 ∷ 9 ∷ 9 ∷ [])
    ≡ record { reply = record { verdict = accept; values = 6 ∷ [] }; out = 0 ∷ 1 ∷ 65535 ∷ 65535 ∷ 65535 ∷ 65535 ∷ 9 ∷ [] }
unfolding file_b ball_call ball_conditions ball_entries filled reply first file_conditions link_conditions centre_outside short_table asks_connected links_below rising earlier nodes_of links_of starts_of ends_of fields field tabulate all all_below distances misses ball inside beside
B-ball = refl
