pub mod RoutingLaws
