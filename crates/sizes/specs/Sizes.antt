-- Document 01: the largest counts that it allows, and the sizes that follow from them; nowhere else do these numbers stand.
use Rattle.std.specs.Prelude.{ℕ, ◌+◌, ◌*◌}

-- "L 1 to 12; N 1 to 64; M 0 to 16"
abbrev pub most_elements : ℕ
most_elements = 64

-- the places of a state: elements, and the tanks above the last of their elements (M-107); M-108: "elements and extra tanks together may not
-- pass 1,000"
abbrev pub most_places : ℕ
most_places = 1000

abbrev pub most_leads : ℕ
most_leads = 12

abbrev pub most_gauges : ℕ
most_gauges = 16

-- "The state keeps N, the step count, each element's discharge, variance and two margins, and each basin's last three rains"
abbrev pub place_numbers : ℕ
place_numbers = 7

abbrev pub state_numbers : ℕ
state_numbers = 2 + place_numbers * most_places

-- "4 × N × (L + 1) numbers", at most
abbrev pub answer_numbers : ℕ
answer_numbers = 4 * most_elements * (most_leads + 1)

-- what the gauges observed: a discharge and a noise each
abbrev pub observed_numbers : ℕ
observed_numbers = 2 * most_gauges

-- the places of the working space of a step: one for each place of the river, and one for what leaves it
abbrev pub small_elements : ℕ
small_elements = 4

abbrev pub middle_elements : ℕ
middle_elements = 16

-- a small river has no more gauges than elements
abbrev pub small_observed_numbers : ℕ
small_observed_numbers = 2 * small_elements

abbrev pub small_step_places : ℕ
small_step_places = small_elements + 1

abbrev pub middle_step_places : ℕ
middle_step_places = middle_elements + 1

abbrev pub medium_places : ℕ
medium_places = 64

abbrev pub medium_step_places : ℕ
medium_step_places = medium_places + 1

-- M-107: an element has at most eight tanks
abbrev pub step_places : ℕ
step_places = 8 * most_elements + 1

-- the places of the working space of a forecast: the same at leads 0 to L
abbrev pub tiny_forecast_places : ℕ
tiny_forecast_places = 6

abbrev pub small_forecast_places : ℕ
small_forecast_places = 32

abbrev pub medium_forecast_places : ℕ
medium_forecast_places = 130

abbrev pub forecast_places : ℕ
forecast_places = (most_elements + 8) * (most_leads + 1)

-- the elements that the first two have room for, at one lead
abbrev pub tiny_forecast_elements : ℕ
tiny_forecast_elements = 2

abbrev pub small_forecast_elements : ℕ
small_forecast_elements = 16

-- the longest table, one of version 2; M-105: "the longest table is 2,442 bytes"
abbrev pub table_bytes : ℕ
table_bytes = 10 + 26 * most_elements + 48 * most_gauges

-- the longest text that a record prints: 147 bytes a line
abbrev pub text_bytes : ℕ
text_bytes = 147 * (most_elements * (most_leads + 1))

-- "After 100,000 records, refused ones counted, the run ends"
abbrev pub most_records : ℕ
most_records = 100000

-- the longest that two length bytes count, and these two
abbrev pub longest_record : ℕ
longest_record = 65537

-- the program's buffers
abbrev pub input_buffer : ℕ
input_buffer = 131072

abbrev pub text_buffer : ℕ
text_buffer = 262144
