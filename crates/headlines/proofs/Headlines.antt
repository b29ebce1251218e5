-- Made by tests/written/headlines.py: what docs/PROMISES.md promises, name by name, in its order. A name that is not proved there does not pass the checker.

-- ---- The demands
-- the first number of refusal in the order, and only then
use Rattle.model.specs.Domain.{outline_refusal}
use Rattle.model.specs.Domain.{pair_refusal}
use Rattle.model.specs.Domain.{pose_refusal}
use Rattle.model.specs.Domain.{cache_refusal}
use Rattle.model.specs.Domain.{sweeps_refusal}
use Rattle.model.specs.Domain.{fraction_refusal}
use Rattle.model.specs.Domain.{slop_refusal}
use Rattle.model.specs.Domain.{or_else}
use Rattle.model.specs.Block.{checked_block}
use Rattle.model.specs.Sheet.{rest_answer}
-- a check's answer says its number: 0 where it passed, and else the refusal that a chain of checks is answered by
use Rattle.model.proofs.Domain.{passed}
use Rattle.model.proofs.Domain.{refused}
use Rattle.model.proofs.Domain.{pose-passed}
use Rattle.model.proofs.Domain.{pose-refused}
-- refusal 12 is the last of the distance call's: given just where all else passes and the cache has corner pairs under another number
use Rattle.model.proofs.PairNumber.{other-pair-refused}
use Rattle.model.proofs.PairNumber.{refused-by-12-only-then}
use Rattle.model.proofs.PairNumber.{empty-passes}
use Rattle.model.proofs.PairNumber.{own-passes}
-- in a sweep 12 cannot occur, whatever its input: looking at the number before each distance call changes no sweep, and no sweep is answered by 12
use Rattle.model.proofs.PairNumber.{every-call-of-a-sweep-passes-12}
use Rattle.model.specs.PairNumber.{checked_sweep}
use Rattle.model.proofs.PairNumber.{no-sweep-refused-by-12}
-- a refused distance call hands back the cache as it came, number and all, and so does a touching one
use Rattle.model.proofs.DistanceCall.{refused-keeps-cache}
use Rattle.model.proofs.DistanceCall.{touching-keeps-cache}
-- after settled or the round limit: the caller's number, 1 to 3 entries, each within its list, entries at or past the count unchanged
use Rattle.model.proofs.DistanceCall.{written-number}
use Rattle.model.proofs.DistanceCall.{written_count}
use Rattle.model.proofs.DistanceCall.{written-entries-are-points}
use Rattle.model.proofs.DistanceCall.{entries-past-count-stay}
-- at most 20 rounds
use Rattle.model.proofs.DistanceCall.{rounds-at-most-20}
-- a sweep makes 1 to 20 distance calls, at most 8 searches for each (160) and at most 50 root steps for each search (8,000)
use Rattle.model.proofs.SweepToi.{sweep-counts-bounded}
use Rattle.model.proofs.SweepToi.{at-most-160-searches}
use Rattle.model.proofs.SweepToi.{at-most-8000-root-steps}
-- the root is that of IEEE 754: no other value of the format is as near the true root
use Rattle.model.specs.Nearest.{Rooted}
use Rattle.model.proofs.Root.Nearest.{rooted}
use Rattle.model.proofs.Root.Nearest.{root-nearest}
use Rattle.model.proofs.Root.Nearest.{root-only}
use Rattle.model.proofs.Root.Nearest.{root-exact}
-- a distance call that is not refused by 12 answers, and leaves of the cache without its number, what the call did before caches had one: refusals 1 ..
use Rattle.model.proofs.PairNumber.{as_before}
use Rattle.model.specs.PairNumber.{unnumbered_distance}
-- on squared paper the distance call is exact, from any cache that is not refused, over the format and the bound
use Rattle.exact.proofs.Demand3.{demand3}
use Rattle.exact.proofs.Accepted.{accepted}
use Rattle.exact.proofs.Demand3.{exact-on-squared-paper}
use Rattle.exact.proofs.Demand3.{answered-on-squared-paper}
-- where a round goes on and another follows, the kept vertices' nearest place gets shorter, or it stays and the call tells that it settled there
use Rattle.circles.specs.NoCircles.{NoCircles}
use Rattle.circles.proofs.NoCircles.{no-circles}
use Rattle.circles.proofs.NoCircles.{no-circles-on-squared-paper}
use Rattle.circles.proofs.NoCircles.{no-circles-within}
use Rattle.circles.proofs.NoCircles.{left-to-do}
use Rattle.circles.proofs.NoCircles.{made-are-counted}
use Rattle.circles.proofs.Told.{told-by-rounds}
-- within 16 a call tells at most 19 rounds (within 22 in f64), whatever its cache
use Rattle.round_limit.specs.RoundLimit.{TellsAtMost}
use Rattle.round_limit.proofs.InTime.{tells-at-most}
use Rattle.round_limit.proofs.InTime.{at-most-19-rounds}
-- within 16 (22 in f64) the two calls are answered and tell the one nearest difference, exchanged or shifted, from the domain and caches that are ..
use Rattle.exchange_always.specs.Always.{ExchangeAlways}
use Rattle.exchange_always.specs.Always.{ShiftAlways}
use Rattle.exchange_always.proofs.Always.{exchange-always}
use Rattle.exchange_always.proofs.Always.{shift-always}
use Rattle.exchange_always.proofs.Always.{exchange-always-on-squared-paper}
use Rattle.exchange_always.proofs.Always.{shift-always-on-squared-paper}
-- exchanging the outlines under the inverse pose negates and turns the one nearest difference, a shift of B that the pose takes back keeps it, and ..
use Rattle.exchange.specs.Exchange.{Exchange}
use Rattle.exchange.specs.Exchange.{Shift}
use Rattle.exchange.specs.Exchange.{OneNearestDifference}
use Rattle.exchange.proofs.Exchange.{exchange}
use Rattle.exchange.proofs.Shift.{shift}
use Rattle.exchange.proofs.Places.{one-nearest-difference}
use Rattle.exchange.proofs.Exchange.{exchange-on-squared-paper}
use Rattle.exchange.proofs.Shift.{shift-on-squared-paper}
-- on squared paper within 16 the round limit is never reached, so the call is exact with no "unless" (within 22 in f64)
use Rattle.round_limit.specs.RoundLimit.{NeverRunOut}
use Rattle.round_limit.specs.RoundLimit.{AlwaysExact}
use Rattle.round_limit.proofs.InTime.{never-run-out}
use Rattle.round_limit.proofs.InTime.{limit-never-reached}
use Rattle.round_limit.proofs.InTime.{always-exact}
use Rattle.round_limit.proofs.InTime.{always-exact-on-squared-paper}
-- ---- The port
-- the cast of support to u32 is idle in the domain
use Rattle.model.proofs.Support.{support-is-whole}
use Rattle.model.proofs.Support.{support-is-a-point}
-- a fixed state repeats: distance calls that leave time and cache as they were add their counts and change nothing else, corners included
use Rattle.sweep_toi.proofs.Repeats.{calls-repeat}
use Rattle.sweep_toi.proofs.Repeats.{call-corners-stay}
-- a distance call that leaves three vertices measures 0 or NaN, so that a sweep whose distance is a number ends overlapped before three corner pairs ..
use Rattle.model.proofs.ThreeVertices.{three-vertices-measure-nothing}
use Rattle.model.proofs.ThreeVertices.{three-vertices-end-a-sweep}
-- ---- Ask 5: first guesses for the root
-- each of the 1,024 first guesses is the largest whole number whose square is at most k · 2^38, computed over the whole list
use Rattle.root_list.proofs.Rule.{rule}
-- from any guess that meets the rule, one correction and one test give the whole number nearest to the root
use Rattle.root.proofs.Halley.{nearest-from-guess}
-- ---- Ask 4: two corners on one line
-- the second index of support: its value equals the winning one as floats do, no higher index has an equal value, it is at least the first and a ..
use Rattle.model.proofs.Second.{second-is-second}
use Rattle.model.specs.Second.{IsSecond}
use Rattle.model.proofs.Second.{second-is-whole}
-- for a direction with a NaN both indices are 0
use Rattle.model.proofs.Second.{nan-x-finds-nothing}
use Rattle.model.proofs.Second.{nan-y-finds-nothing}
-- a sweep's answer without its corners is the one that it was, and so are a block's verdict and its line: the old fields, then four
use Rattle.model.proofs.Searches.{answer-as-ever}
use Rattle.model.proofs.Searches.{told-as-ever}
use Rattle.model.proofs.Searches.{line-as-ever}
use Rattle.model.proofs.Searches.{line-ends}
-- the corners told are those of the last search that the count of searches counts: the searches listed are as many as it says
use Rattle.model.proofs.Searches.{searches-are-counted}
use Rattle.model.proofs.Searches.{corners-of-the-last}
use Rattle.model.proofs.Searches.{last-is-last}
use Rattle.model.proofs.Searches.{first-of-a}
use Rattle.model.proofs.Searches.{first-of-b}
-- ---- The batch, its lines and its totals, and Ask 2: failed is not a contact
-- a file is one list of blocks, the last one short where bytes are left over
use Rattle.model.specs.Blocks.{blocks}
use Rattle.model.proofs.Blocks.{blocks-in-two-parts}
-- its answers are one for each of them
use Rattle.model.proofs.Sheet.{answers-in-two-parts}
-- a file's text is its blocks' lines, each from its number and its own 512 bytes alone, the line of a rest, and the totals
use Rattle.model.proofs.Sheet.{sheet-by-block}
use Rattle.model.proofs.Sheet.{lines-by-block}
-- a file worked in parts of whole blocks, the last one free, gives the text of the whole
use Rattle.model.proofs.Sheet.{parts-make-whole}
-- a run over parts comes to what the whole does, for any state, step, room for a part and text, where a last part gives what it is worth and a full ..
use Rattle.runs.proofs.Whole.{run-makes-whole}
use Rattle.runs.specs.Run.{run}
use Rattle.runs.specs.Run.{Cut}
use Rattle.runs.specs.Run.{Steps}
-- a run of the code's own function over parts of 64 KiB, the last one shorter, gives the sheet, for every file below 2^63 bytes
use Rattle.sheet_lines.proofs.Run.{run-gives-sheet}
-- blocks are clear, contact, undecided and refused ones together, for every file
use Rattle.model.proofs.Sheet.{totals-add-up}
-- each total is what a reader counts from the printed lines: clear those with S, contact those with H or O, undecided those with F, refused those ..
use Rattle.model.proofs.Counted.{sheet-counted}
use Rattle.model.proofs.Counted.{SheetCounted}
use Rattle.model.proofs.Counted.{letter-printed}
-- ---- Ask 7: is there anything in this batch?
-- the number of the first contact is above 0 if and only if contact in TOTAL is
use Rattle.any_contact_search.proofs.First.{first-contact}
use Rattle.any_contact_search.specs.First.{FirstContact}
-- a short rest is passed over, and what stands behind a part shorter than 64 KiB is never looked at
use Rattle.any_contact_search.proofs.First.{rest-passed-over}
use Rattle.any_contact_search.proofs.Run.{short-part-ends}
-- the search by the code's own function over parts of 64 KiB, the last one shorter, finds the first contact of the whole, for every file below 2^63 ..
use Rattle.any_contact_search.proofs.Run.{search-finds-first}
-- ---- Ask 9: block form 2
-- in form 2 any exchange of words i and i + 1 that differ, i from 0 to 125, is refused by 10 where the check was right and byte 6 is 2 before and after
use Rattle.convert_forms.proofs.Exchange.{exchange-refused}
-- an exchange that sets byte 6 to 0 can pass as form 1: an instance
use Rattle.convert_forms.proofs.Exchange.{form-2-by-chance-form-1}
-- two conversions of a block that passes give back all its bytes
use Rattle.convert_forms.proofs.SameLine.{twice}
use Rattle.convert_forms.proofs.SameLine.{other-checked}
use Rattle.convert_forms.proofs.SameLine.{same_answer}
use Rattle.convert_forms.proofs.SameLine.{same_line}
-- a converted file is the other forms of the blocks that are not refused, in order and no others, 512 bytes each
use Rattle.convert_forms.proofs.Kept.{converted-in-order}
use Rattle.convert_forms.proofs.Kept.{as-many-blocks}
use Rattle.convert_forms.proofs.Kept.{two_runs}
use Rattle.convert_forms.proofs.Kept.{second-run-silent}
-- a conversion by the code's own function over parts of 64 KiB, the last one shorter, writes and tells what the whole comes to, for every file below ..
use Rattle.convert_forms.proofs.Run.{run-converts-whole}
-- ---- Ask 11: getting a damaged batch back
-- what salvage prints and writes of a file: runs and kept blocks go over it from place 0 to its end, each from where the one before it ended
use Rattle.salvage_walk.proofs.Told.{salvaged}
use Rattle.salvage_walk.specs.Told.{Salvage}
use Rattle.salvage_walk.specs.Told.{Told}
-- no other runs and blocks do so: it is the greedy walk
use Rattle.salvage_walk.proofs.Told.{only_one}
-- a walk by the code's own functions over any parts that find room behind what is left writes and tells what the whole comes to, for every file ..
use Rattle.salvage_walk.proofs.Run.{run-salvages-whole}
use Rattle.salvage_walk.proofs.Steps.{walked-by-parts}
-- no block starts at places 360 to 504 of one that passes, whatever follows it
use Rattle.salvage_walk.proofs.Passing.{none-among-zeros}
-- ---- Ask 3: plates and bars
-- a plate that is built has at corner k its half sizes, x negated where bit 0 of k is set and y where bit 1 is
use Rattle.shapes.proofs.Corners.{plate-corner}
use Rattle.shapes.proofs.Corners.{bar-corners}
use Rattle.shapes.proofs.Corners.{placed-plate-corner}
use Rattle.shapes.proofs.Corners.{placed-bar-corners}
-- a refused build leaves the lent list
use Rattle.shapes.proofs.Corners.{refused-leaves}
use Rattle.shapes.proofs.Corners.{rest-kept}
use Rattle.shapes.proofs.Corners.{size-kept}
-- the corners of a plate or a bar that is built, not placed, pass the checks of outlines
use Rattle.shapes.proofs.Corners.{plate-accepted}
use Rattle.shapes.proofs.Corners.{bar-accepted}
-- a half size of -0 passes, and gives +0 where its bit is set
use Rattle.shapes.proofs.Corners.{minus-zero-passes}
use Rattle.shapes.proofs.Corners.{minus-zero-turns}
-- ---- One moment of a move
-- the gap at a fraction is the distance that a sweep of these moves works there from no corners, whatever its radii, its last time and its slop
use Rattle.at_fraction.proofs.Sweeps.{gap-is-the-sweeps}
-- a run of gaps' own function over parts of 24 blocks, the last one shorter, gives the gaps of the file, for every file below 2^63 bytes: of each ..
use Rattle.gaps_lines.proofs.Run.{run-gives-gaps}
use Rattle.gaps_lines.specs.Gaps.{gaps_of}
use Rattle.gaps_lines.specs.Gaps.{gap_at}
use Rattle.gaps_lines.specs.Gaps.{fraction_at}
-- what gaps refuses is what the sheet refuses, by the same line
use Rattle.gaps_lines.proofs.OnTheSheet.{refused-as-on-the-sheet}
use Rattle.gaps_lines.proofs.OnTheSheet.{counts-as-on-the-sheet}
-- ---- Ask 1: a writer for job blocks, and a reader
-- digits that were written are read back as the number that they were written for, decimal and hexadecimal
use Rattle.text.proofs.ReadBack.{decimal-value}
use Rattle.text.proofs.ReadBack.{hex-value}
use Rattle.text.proofs.ReadBack.{stored-number}
-- what pack writes for a line is a block that the reader of sheet accepts, with the job and the counts that it has
use Rattle.job_text.proofs.RoundTrip.{job-accepted}
-- the numbers of such a line are the block's, field by field and point by point, by their bits
use Rattle.job_text.proofs.RoundTrip.{job-by-its-bits}
-- a block that unpack does not refuse: its line is a job, and the block of that line is the same 512 bytes
use Rattle.job_text.proofs.RoundTrip.{its-line-is-a-job}
use Rattle.job_text.proofs.RoundTrip.{block-text-block}
-- a line that is a job: the line of its block is that line
use Rattle.job_text.proofs.RoundTrip.{line-block-line}
-- a line is a job if and only if it is of the grammar: job from 1 to 2^32 − 1 and both counts from 1 to 16 in decimal without leading zeros, so many ..
use Rattle.job_grammar.specs.Grammar.{JobLine}
use Rattle.job_grammar.proofs.Grammar.{grammar-is-job}
use Rattle.job_grammar.proofs.Grammar.{job-is-grammar}
use Rattle.job_grammar.proofs.Shown.{rows}
-- the block that pack writes for it has what its digits say: the job, the counts, each word in its place
use Rattle.job_grammar.specs.Grammar.{Has}
use Rattle.job_grammar.proofs.Grammar.{block-has-what-it-says}
-- a line is a job or it is not: is_job answers true or false for every list of bytes
use Rattle.job_text.specs.Job.{is_job}
use Rattle.job_text.proofs.Shown.{job}
use Rattle.job_text.proofs.Shown.{leading-zero}
use Rattle.job_text.proofs.Shown.{seventeen-points}
use Rattle.job_text.proofs.Shown.{too_large}
-- between two lines a run of pack takes the next line by itself, however long: what it adds depends on that line and its number alone
use Rattle.pack_lines.proofs.Alone.{line-alone}
-- the code's own functions, called on the parts as the programs cut their input, write what the whole comes to on both streams, for every text or ..
use Rattle.pack_lines.proofs.PackRun.{run-packs-whole}
use Rattle.unpack_blocks.proofs.UnpackRun.{run-unpacks-whole}
use Rattle.pack_lines.proofs.PackRun.{pack-run}
use Rattle.unpack_blocks.proofs.UnpackRun.{unpack-run}
-- ---- Ask 13: where in the move it happens
-- two reports put together are the report of both lists of batches in order
use Rattle.report_counts.proofs.Merged.{report-of-both}
use Rattle.report_counts.proofs.Merged.{together-assoc}
use Rattle.report_counts.proofs.Merged.{empty-first}
use Rattle.report_counts.proofs.Merged.{empty-last}
-- answers counted one by one are the report of their batch
use Rattle.report_counts.proofs.Merged.{counted-one-by-one}
-- the rows of fractions at their edges: each k/8, 1 and its neighbours, −0, infinities, what is not a number
use Rattle.report_batches.proofs.Eighths.{eighths}
use Rattle.report_batches.proofs.Eighths.{ends}
use Rattle.report_batches.proofs.Eighths.{not-a-number}
-- hits by fraction add up to HIT, refusals by number to REFUSED, and clear, overlapped, failed, hit and refused to BLOCKS, for all files below 2^64 ..
use Rattle.report_batches.proofs.Numbers.{report-adds-up}
use Rattle.report_batches.specs.Told.{AddsUp}
use Rattle.report_batches.proofs.Numbers.{file-given}
-- blocks, clear, overlapped, failed, hit and refused are what a reader counts on the lines of the files' sheets
use Rattle.report_batches.proofs.AsSheet.{as-sheets}
-- so are the rows of hits by fraction (the lines with H whose printed fraction belongs there) and of refusals by number, and each of the three ..
use Rattle.report_from_lines.specs.Printed.{FromLines}
use Rattle.report_from_lines.specs.Printed.{FirstLargest}
use Rattle.report_from_lines.proofs.FromLines.{report-from-lines}
use Rattle.report_from_lines.proofs.Shown.{hit-row}
use Rattle.report_from_lines.proofs.Shown.{refusal-row}
use Rattle.report_from_lines.proofs.Shown.{counts-shown}
-- each of the three largest counts stands on a worked block at its place, no block has a larger one, and every worked block before it has a smaller one
use Rattle.report_batches.proofs.Firsts.{firsts}
use Rattle.report_batches.specs.Told.{Firsts}
-- a batch worked in parts of 64 KiB, the last one shorter, gives the report of the whole
use Rattle.report_batches.proofs.Run.{a-batch-in-parts}
use Rattle.report_batches.proofs.Run.{files-in-order}
-- ---- Ask 6: routes
-- a route whose lists are right comes to one of two: clear, every leg separated from every still outline, with the distance calls of all sweeps
use Rattle.route_legs.proofs.First.{route-outcome}
use Rattle.route_legs.specs.Promise.{Outcome}
use Rattle.route_legs.specs.Promise.{AllSeparated}
use Rattle.route_legs.specs.Promise.{First}
-- so it is CLEAR exactly if every leg is separated from every still outline
use Rattle.route_legs.proofs.First.{clear-if}
use Rattle.route_legs.proofs.First.{clear-only-if}
-- the sweep named is sweep_time_of_impact of that leg and that outline, its status, floats or number told as they are
use Rattle.route_legs.specs.Route.{sweep_at}
use Rattle.route_legs.specs.Route.{ended_by}
use Rattle.route_legs.proofs.First.{refused-as-swept}
-- the distance calls told are at most 20 · L · K
use Rattle.route_legs.proofs.First.{at-most-20-a-sweep}
-- a sweep of a route is never refused by 4 or by 7
use Rattle.route_legs.proofs.Never.{never-4-or-7}
use Rattle.route_legs.proofs.Answers.{advance-answers}
-- every route that is written as text, whatever its numbers and however many, is read as one: none of its lines is told by 14
use Rattle.route_read.proofs.Written.{written-is-read}
use Rattle.route_line.specs.Text.{route_text}
use Rattle.route_read.proofs.Shown.{the-least}
use Rattle.route_read.proofs.Shown.{blank-too-many}
-- a route that is read is the route that was written: of every route's text, however long, the line told is the answer of that route by its own ..
use Rattle.route_grammar.proofs.Suffice.{answer-of-text}
use Rattle.route_grammar.proofs.Suffice.{run-answers-route}
use Rattle.route_grammar.specs.Grammar.{route_for}
use Rattle.route_grammar.proofs.Suffice.{numbers-suffice}
-- where no line has more than 129 numbers and there are at most 33 waypoints and 32 outlines, what is handed on is those numbers, piece by piece
use Rattle.route_grammar.specs.Grammar.{Within}
use Rattle.route_grammar.specs.Grammar.{Handed}
use Rattle.route_grammar.proofs.Suffice.{read-as-written}
use Rattle.route_grammar.proofs.Shown.{pieces}
-- the reader takes a text for a route if and only if it is the text of some route
use Rattle.route_grammar.specs.Grammar.{RouteText}
use Rattle.route_grammar.proofs.Told.{taken-is-route}
use Rattle.route_grammar.proofs.Told.{route-is-taken}
use Rattle.route_grammar.proofs.Told.{route-or-14}
-- a route's text read part by part by the code's own functions is answered as the whole
use Rattle.route_text.proofs.Run.{run-answers-whole}
use Rattle.route_read.proofs.Runs.{run-reads-whole}
-- ---- Ask 12: the f64 build
-- the f64 crates' definitions are model's through maps of the records, for every format: solvers, distance call, separation, sweep with its corners, ..
use Rattle.bridge.proofs.Simplex.{solve-same}
use Rattle.bridge.proofs.Distance.{proxy-distance-same}
use Rattle.bridge.proofs.Separation.{new-separation-same}
use Rattle.bridge.proofs.Separation.{evaluate-same}
use Rattle.bridge.proofs.Separation.{find-same}
use Rattle.bridge.proofs.SweepToi.{sweep-same}
use Rattle.bridge.proofs.Corners.{swept_same}
use Rattle.bridge.proofs.Sheet.{block-answer-same}
use Rattle.bridge.proofs.Sheet.{lines_same}
use Rattle.bridge.proofs.Sheet.{totals-same}
-- so is every other definition of theirs that a public contract names (tests/written/bridge.py names one without its law): ground operations, checks ..
use Rattle.bridge.proofs.Ground.{rotate-same}
use Rattle.bridge.proofs.Domain.{outline-refusal-same}
use Rattle.bridge.proofs.Domain.{checked-pose-same}
use Rattle.bridge.proofs.Domain.{refusal-of-pose-same}
use Rattle.bridge.proofs.Domain.{support-answer-same}
use Rattle.bridge.proofs.Corners.{advanced-same}
use Rattle.bridge.proofs.Sheet.{told-swept-same}
-- what the f64 crates define of their own is what the f32 crates do: the separation by poses, the flat list of point records, the calls over lists
use Rattle.bridge_own.proofs.ByPoses.{new-separation-by-same}
use Rattle.bridge_own.proofs.ByPoses.{search-by-same}
use Rattle.bridge_own.proofs.ByPoses.{between-same}
use Rattle.bridge_own.proofs.Points.{flat-same}
use Rattle.bridge_own.proofs.Entry.{sweep-told-same}
use Rattle.bridge_own.proofs.Entry.{distance-told-same}
use Rattle.bridge_own.proofs.Text.{floats_same}
use Rattle.bridge_own.proofs.Text.{line-for-same}
-- on squared paper the f64 code's own call is exact within 2,048 and is answered
use Rattle.exact64.proofs.Exact.{exact-wide}
use Rattle.exact64.proofs.Exact.{answered-wide}
use Rattle.exact64.proofs.Exact.{no-circles-wide}
use Rattle.exact64.proofs.Exact.{exchange-wide}
use Rattle.exact64.proofs.Exact.{shift-wide}
use Rattle.exact64.proofs.Rounds.{left-to-do as left-to-do-exact64}
-- within 22 it never reaches the round limit and tells at most 19 rounds, and Ask 14 holds with no "unless"
use Rattle.exact64.proofs.Exact.{always-exact-wide}
use Rattle.exact64.proofs.Exact.{at-most-19-rounds-wide}
use Rattle.exact64.proofs.Exact.{exchange-always-wide}
use Rattle.exact64.proofs.Exact.{shift-always-wide}
-- a run of sheet64's own function over parts of 64 KiB gives model's sheet at binary64, for every file below 2^63 bytes
use Rattle.sheet_lines64.proofs.Run.{run-gives-sheet as run-gives-sheet-sheet-lines64}
-- ---- That no second result fits
-- that no second result fits, nor a second content of a list lent to be written: one statement for each public function, of the contract that its ..
-- ---- The whole move
-- the distance to keep is the larger of the slop and the sum of the radii
use Rattle.planned.specs.Planned.{Clear}
use Rattle.planned.specs.Planned.{Touch}
use Rattle.planned.specs.Planned.{Open}
use Rattle.planned.specs.Planned.{Away}
use Rattle.planned.specs.Planned.{Touching}
-- a turn exists wherever the rotation is not 0
use Rattle.planned.proofs.Laws.{a_turn}
use Rattle.planned.proofs.Laws.{clear-or-touch}
-- the swing of job 2113 of the sample is not CLEAR, nor is a move that comes near only between two samples
use Rattle.planned.proofs.Instances.{not-clear}
use Rattle.planned.proofs.Instances.{not-clear-between-samples}
-- a piece of a move that the check lets pass is away at every moment of it, disc and rounding included
use Rattle.whole_move.proofs.Clear.{checked-is-clear}
use Rattle.whole_way.proofs.Join.{settled-between}
use Rattle.whole_way.proofs.Join.{one_more}
use Rattle.standing.proofs.Clear.{seen-is-clear}
-- a job that is not refused is in range: it finds its grid and its part of the way
use Rattle.clearance_call.proofs.InDomain.{ordinary}
use Rattle.clearance_call.proofs.InDomain.{ranged}
-- a look from 0 is refused as the sweep is, by the same number
use Rattle.clearance_call.proofs.Whole.{as-the-sweep}
-- the call for C: a number, two fractions and the pieces, told of an answer that holds (ClearanceTold)
use Rattle.clearance_lists.proofs.Exact.{fraction-exact}
-- of a file below 2^63 bytes, read in parts of 64 KiB, the last one shorter: whatever a run by that contract prints are the lines and TOTAL of one ..
use Rattle.clearance_lines.proofs.Program.{ran-prints}
use Rattle.clearance_lines.specs.Program.{Ran}
use Rattle.clearance_lines.specs.Program.{Step}
use Rattle.clearance_lines.specs.Part.{Printed}
-- the same text by the one theorem about runs, for any answers, by their place in the file
use Rattle.clearance_lines.proofs.Run.{run-gives-lines}
-- each total is what a reader counts from the lines, by the first letter of the fourth field: C, T, O, or none where the block is refused
use Rattle.clearance_lines.proofs.Counted.{text-counted}
use Rattle.clearance_lines.specs.Counted.{TextCounted}
use Rattle.clearance_lines.proofs.Folds.{totals-add-up as totals-add-up-clearance-lines}
-- a block is refused just where the sheet refuses it, by the same job and number, and so by the same line
use Rattle.clearance_sheet.proofs.Alike.{refused-alike}
use Rattle.clearance_sheet.proofs.Alike.{file-alike}
use Rattle.clearance_sheet.specs.Alike.{Alike}
use Rattle.clearance_sheet.proofs.Alike.{same_line as same_line-clearance-sheet}
use Rattle.clearance_sheet.proofs.Alike.{same-totals}
-- a place of k 2^24-ths is printed as the f32 that is exactly k / 2^24
use Rattle.places.proofs.Exact.{place-exact}
-- a route looked at as a whole, for any lists: what is wrong with them is told exactly as route tells it
use Rattle.route_clearance_legs.specs.Looks.{Told as Told-route-clearance-legs}
use Rattle.route_clearance_legs.specs.Looks.{Walked}
use Rattle.route_clearance_legs.specs.Looks.{Passed}
-- so after CLEAR the cart is farther than the slop from every outline at every moment of every leg (AllClear)
use Rattle.route_clearance_legs.proofs.First.{route-says}
use Rattle.route_clearance_legs.specs.Promise.{Says}
-- a pair has the moves of route's sweep, the slop as its distance to keep and the whole leg, and is refused as that sweep is, by the same number
use Rattle.route_clearance_legs.proofs.Swept.{cart-moves}
use Rattle.route_clearance_legs.proofs.Swept.{outline-stands}
use Rattle.route_clearance_legs.proofs.Swept.{keeps-slop}
use Rattle.route_clearance_legs.proofs.Swept.{whole-leg}
use Rattle.route_clearance_legs.proofs.Swept.{as-swept}
-- at most 4,194,304 pieces are told, 4,096 a pair
use Rattle.route_clearance_legs.proofs.First.{pieces-few}
-- the line written is that of an answer that holds of what was read, or 14 and the line (Written, AnswerOf)
use Rattle.route_clearance_text.proofs.Run.{run-answers-whole as run-answers-whole-route-clearance-text}
-- of a file below 2^63 bytes read in parts of 64 KiB, the last one shorter: after none at least one block came and all are clear
use Rattle.all_clear_search.proofs.Run.{run-answers}
use Rattle.all_clear_search.proofs.Run.{run-tells-first}
-- of a file below 2^63 bytes read in parts of 64 KiB, the last one shorter: its text is the lines and TOTAL of answers, one for each of its blocks ..
use Rattle.rooms_lines.proofs.Run.{run-prints}
use Rattle.rooms_lines.specs.Part.{Printed as Printed-rooms-lines}
use Rattle.rooms_lines.proofs.Run.{run-gives-lines as run-gives-lines-rooms-lines}
