pub mod MovingInAreas
