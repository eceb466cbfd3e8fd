-- The calls that the lines of a script ask for.
use Rattle.std.specs.Prelude.{ℕ, List, [], ◌∷◌, map, Ok, Err, Result}
use Rattle.std.specs.List.{flat_map}
use Rattle.refusals.specs.declared.Refusal.{Refusal}
use Rattle.script.specs.declared.Cut.{Cut as PowerCut}
use Rattle.script.specs.declared.Request.{Request}
use Rattle.script.specs.declared.Request.TheVariants.{Instruct, Register, Cash, Cut}
use Rattle.script.specs.Requests.{request_in}
use Rattle.script.specs.Feeds.{lines_of}
use Rattle.depository.specs.Orders.{Order, instruct_order, close_order, restart_order, open_order, ask_order}
use Rattle.depository.specs.declared.calls.Question.TheVariants.{Securities, Money}

-- a cut is three calls: a close, a restart and an open
abbrev pub cut_orders : PowerCut → List Order
cut_orders x = close_order ∷ restart_order x.calls_left x.remains ∷ open_order ∷ []

-- An instruction, or a question, is one call. A line that is refused asks for none.
abbrev pub orders_of : Result Request Refusal → List Order
orders_of (Ok (Instruct x)) = instruct_order x ∷ []
orders_of (Ok (Register p)) = ask_order (Securities p.account p.item) ∷ []
orders_of (Ok (Cash p)) = ask_order (Money p.account p.item) ∷ []
orders_of (Ok (Cut x)) = cut_orders x
orders_of (Err r) = []

-- an open, and then what each line asks for
abbrev pub orders_for : List (Result Request Refusal) → List Order
orders_for requests = open_order ∷ flat_map orders_of requests

-- what each line of a script is read as
abbrev pub requests_in : List ℕ → List (Result Request Refusal)
requests_in script = map request_in (lines_of script)

abbrev pub orders_in : List ℕ → List Order
orders_in script = orders_for (requests_in script)
