-- Whole numbers, lists, tests, refusals, the clock.
pub mod Whole
pub mod Lists
pub mod Tests
pub mod Refusals
pub mod Clocks
-- What could have happened at the node: pairs, the two channels, and document 01's facts.
pub mod Pairs
pub mod Channels
pub mod Facts
-- The step over cuts, whatever the sets are: by its places, what holds of all sets, the order of the inputs held.
pub mod Fronts
pub mod Throughout
pub mod InOrder
-- The step over cuts is exact, for any matcher and any sets.
pub mod Sets
pub mod OneLine
pub mod Ways
pub mod Outputs
pub mod Inputs
pub mod Closing
pub mod Exact
pub mod Calls
-- The matcher in use and its sets of matched lengths.
pub mod Longest
pub mod Matching
pub mod Lengths
-- Demand 3: boundaries and full histories.
pub mod Splitting
pub mod Boundary
pub mod Histories
pub mod Lost
-- The cases marked P.
pub mod Cases
